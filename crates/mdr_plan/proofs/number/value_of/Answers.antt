use Rattle.std.proofs.Common.{◌∙◌, refl, sym}
use Rattle.mdr_plan.proofs.Worth.{value_of-none, value_of-some}
use Rattle.mdr_plan.proofs.number.value_of.Goals as goal

pub returns-in_err-value : goal.returns-in_err-value
returns-in_err-value c =
    let large = c.in_err-value.ensures.none refl in
    c.from_residual.ensures ∙ sym (value_of-none c.loop-b.value c.loop-b.b-index c.args.digits.now c.loop-b-test.true large c.loop-b.invariant.so_far)

pub returns : goal.returns
returns c = sym (value_of-some c.loop-b.value c.loop-b.b-index c.args.digits.now c.loop-b-test.false c.loop-b.invariant.fits c.loop-b.invariant.so_far)
