use Rattle.mdr_copy.proofs.Rows.{cell_next, cells_all}
use Rattle.mdr_copy.proofs.sets.put_run.Goals as goal

pub loop-i-preserved : goal.loop-i-preserved
loop-i-preserved c =
    cell_next c.loop-i.out.items _ _ c.args.run.serial c.args.run.first c.loop-i.i c.args.run.len c.loop-i-test.true
    c.in_ok-push.ensures.items c.loop-i.invariant

pub returns : goal.returns
returns c = cells_all c.loop-i.out.items c.args.run.serial c.args.run.first c.args.run.len c.loop-i.i _ c.loop-i-test.false c.loop-i.invariant
