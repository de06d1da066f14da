use Rattle.std.proofs.Common.{length, refl, arith, ◌≤◌, ◌<◌}
use Rattle.mdr_copy.proofs.Joined.{first_cells, cells_before}
use Rattle.mdr_copy.proofs.runs.backwards.Goals as goal

pub loop-i-init : goal.loop-i-init
loop-i-init c = (omega arith, first_cells c.args.cells.now c.new-runs.result.items c.new-runs.ensures.items)

pub loop-i-preserved : goal.loop-i-preserved
loop-i-preserved c =
    let within : c.loop-i.i ≤ length c.args.cells.now = c.loop-i.invariant.0 in
    let some : 0 < c.loop-i.i = c.loop-i-test.true in
    (omega (arith, within), cells_before c.args.cells.now c.loop-i.i _ (record { serial = 0; index = 0 }) c.loop-i.runs.items c.join.new.out.items some within refl c.in_ok-join.ensures c.loop-i.invariant.1)
