use Rattle.std.proofs.Common.{sym, ◌∙◌, arith}
use Rattle.mdr_region.specs.Holes.{hole}
use Rattle.mdr_region.proofs.HoleLaws.{rise_at, pass_here, pass_later, pass_all}
use Rattle.mdr_region.proofs.holes.passed.Goals as goal

pub overflow_add-holes : goal.overflow_add-holes
overflow_add-holes c = omega (arith, rise_at 0 c.args.top c.loop-i.i c.args.holes.now (hole 0 0) c.requires c.loop-i-test.true, c.ranges.top.fits)

pub returns-then-holes-i : goal.returns-then-holes-i
returns-then-holes-i c = sym (pass_here c.args.start c.loop-i.i c.args.holes.now _ c.loop-i-test.true c.if-holes-i.true) ∙ c.loop-i.invariant

pub loop-i-preserved : goal.loop-i-preserved
loop-i-preserved c = sym (pass_later c.args.start c.loop-i.i c.args.holes.now _ c.loop-i-test.true c.if-holes-i.false) ∙ c.loop-i.invariant

pub returns : goal.returns
returns c = omega (arith, pass_all c.args.start c.loop-i.i c.args.holes.now c.loop-i-test.false, c.loop-i.invariant, c.loop-i-test.false, c.loop-i.auto)
