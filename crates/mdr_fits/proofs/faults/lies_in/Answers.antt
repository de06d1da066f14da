use Rattle.std.proofs.Common.{sym}
use Rattle.mdr_fits.proofs.RowTests.{all_in, lies_next, lies_not, lies_all}
use Rattle.mdr_fits.proofs.faults.lies_in.Goals as goal

pub returns-then-not-has : goal.returns-then-not-has
returns-then-not-has c = lies_not c.args.view.now c.args.serial c.args.first c.loop-i.i c.args.values.now (all_in c.args.view.now c.args.serial c.args.first c.args.values.now) c.loop-i-test.true (sym c.if-not-has.ensures) c.loop-i.invariant

pub loop-i-preserved : goal.loop-i-preserved
loop-i-preserved c = lies_next c.args.view.now c.args.serial c.args.first c.loop-i.i c.args.values.now (all_in c.args.view.now c.args.serial c.args.first c.args.values.now) c.loop-i-test.true (sym c.if-not-has.ensures) c.loop-i.invariant

pub returns : goal.returns
returns c = lies_all c.args.view.now c.args.serial c.args.first c.loop-i.i c.args.values.now (all_in c.args.view.now c.args.serial c.args.first c.args.values.now) c.loop-i-test.false c.loop-i.invariant
