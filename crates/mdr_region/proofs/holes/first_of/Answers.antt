use Rattle.std.proofs.Common.{sym, ◌∙◌}
use Rattle.mdr_region.proofs.HoleLaws.{fit_here, fit_later, fit_none}
use Rattle.mdr_region.proofs.holes.first_of.Goals as goal

pub returns-then-n-holes : goal.returns-then-n-holes
returns-then-n-holes c = sym (fit_here c.args.n c.loop-i.i c.args.holes.now _ c.loop-i-test.true c.if-n-holes.true) ∙ c.loop-i.invariant

pub loop-i-preserved : goal.loop-i-preserved
loop-i-preserved c = sym (fit_later c.args.n c.loop-i.i c.args.holes.now _ c.loop-i-test.true c.if-n-holes.false) ∙ c.loop-i.invariant

pub returns : goal.returns
returns c = sym (fit_none c.args.n c.loop-i.i c.args.holes.now c.loop-i-test.false) ∙ c.loop-i.invariant
