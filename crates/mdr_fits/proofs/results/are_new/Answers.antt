use Rattle.std.proofs.Common.{sym}
use Rattle.mdr_fits.proofs.NewTests.{new_here, none_left, old_here, values_left}
use Rattle.mdr_fits.proofs.results.are_new.Goals as goal

pub returns-then-not-is_new_at : goal.returns-then-not-is_new_at
returns-then-not-is_new_at c = old_here c.args.news.now c.args.shapes.now c.args.values.now c.loop-i.i _ _ c.loop-i-test.true (sym c.if-not-is_new_at.ensures) c.loop-i.invariant

pub loop-i-preserved : goal.loop-i-preserved
loop-i-preserved c = new_here c.args.news.now c.args.shapes.now c.args.values.now c.loop-i.i _ _ c.loop-i-test.true (sym c.if-not-is_new_at.ensures) c.loop-i.invariant

pub returns-then-shapes-values : goal.returns-then-shapes-values
returns-then-shapes-values c = values_left c.args.news.now c.args.shapes.now c.args.values.now c.loop-i.i _ c.loop-i.auto.i-end c.loop-i-test.false c.if-shapes-values.true c.loop-i.invariant

pub returns-else-shapes-values : goal.returns-else-shapes-values
returns-else-shapes-values c = none_left c.args.news.now c.args.shapes.now c.args.values.now c.loop-i.i _ c.loop-i.auto.i-end c.loop-i-test.false c.if-shapes-values.false c.loop-i.invariant
