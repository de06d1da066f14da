use Rattle.std.proofs.Common.{◌+◌, refl}
use Rattle.mdr_verify.proofs.Differing.{more_same, all_same}
use Rattle.mdr_verify.proofs.verdict.first_difference.Goals as goal

pub loop-place-preserved : goal.loop-place-preserved
loop-place-preserved c = more_same c.args.said.now c.args.due.now c.loop-place.place (c.loop-place.place + 1) refl c.loop-place.invariant (c.is_same_at.ensures.0 c.if-not-is_same_at.false)

pub returns-then-is_same_at : goal.returns-then-is_same_at
returns-then-is_same_at c = all_same c.args.said.now c.args.due.now c.loop-place.place c.loop-place-test.false c.loop-place.invariant (c.is_same_at-2.ensures.0 c.if-is_same_at.true)
