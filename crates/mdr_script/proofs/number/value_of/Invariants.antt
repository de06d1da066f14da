use Rattle.std.proofs.Common.{◌≡◌, ◌≤◌, ◌-◌, ◌^◌, min, drop}
use Rattle.mdr_syntax.specs.Numbers.{worth_after}
use Rattle.mdr_script.proofs.number.value_of.Given as goal

abbrev pub invariant-loop-b : goal.invariant-loop-b
invariant-loop-b l = record {
  so_far : min (worth_after l.radix l.value (drop l.b-index l.digits)) (2 ^ 128 - 1) ≡ min (worth_after l.radix 0 l.digits) (2 ^ 128 - 1);
  fits : l.value ≤ 2 ^ 128 - 1;
}
