use Rattle.std.proofs.Common.{◌≤◌, ◌+◌, ◌*◌, ◌-◌, ◌^◌, get_or, subst, sym}
use Rattle.std.proofs.Math.Nat.{min-le_right}
use Rattle.mdr_syntax.specs.Numbers.{digit_of}
use Rattle.mdr_script.proofs.Worths.{value_step, value_end}
use Rattle.mdr_script.proofs.number.value_of.Goals as goal

pub loop-b-preserved : goal.loop-b-preserved
loop-b-preserved c = record {
  so_far = value_step c.args.radix c.loop-b.value c.next_value-value.result c.loop-b.b-index _ c.args.digits.now c.requires c.loop-b-test.true c.next_value-value.ensures c.loop-b.invariant.so_far;
  fits = subst (λ n. n ≤ 2 ^ 128 - 1) (sym c.next_value-value.ensures) (min-le_right (c.loop-b.value * c.args.radix + digit_of (get_or c.args.digits.now c.loop-b.b-index 0)) (2 ^ 128 - 1));
}

pub returns : goal.returns
returns c = value_end c.args.radix c.loop-b.value c.loop-b.b-index c.args.digits.now c.loop-b-test.false c.loop-b.invariant.fits c.loop-b.invariant.so_far
