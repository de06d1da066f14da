use Rattle.mdr_print.specs.Items.{field}
use Rattle.mdr_print.proofs.Rows.{row_more, row_whole}
use Rattle.mdr_print.proofs.item.put_fields.Goals as goal

pub loop-d-preserved : goal.loop-d-preserved
loop-d-preserved c =
    row_more field c.args.fields.now c.loop-d.d-index c.d-item.result _ c.loop-d.out.items c.put_field.new.out.items
    c.loop-d-test.true c.d-item.is c.loop-d.invariant c.in_ok-put_field.ensures

pub returns : goal.returns
returns c = row_whole field c.args.fields.now c.loop-d.d-index _ c.loop-d.out.items c.loop-d-test.false c.loop-d.invariant
