use Rattle.mdr_reach.proofs.RowLaws.{no_rows, rows_of_slice}
use Rattle.mdr_reach.proofs.rows.rows_of.Goals as goal

pub loop-s-init : goal.loop-s-init
loop-s-init c = no_rows c.args.structs.now c.args.touched.now _ c.new-rows.ensures

pub loop-s-preserved : goal.loop-s-preserved
loop-s-preserved c =
    rows_of_slice c.args.structs.now c.args.touched.now c.loop-s.s c.in_ok-number.number c.loop-s.rows c.as_slice.result.now c.push.new.self c.in_ok-row.row c.fields.result.now
    c.as_slice.ensures c.in_ok-number.ensures c.fields.ensures c.in_ok-push.ensures.ok c.in_ok-row.ensures.arounds c.in_ok-row.ensures.offsets c.in_ok-row.ensures.starts c.in_ok-row.ensures.few c.loop-s.invariant
