use Rattle.std.proofs.Common.{◌≡◌, ◌<◌, ◌^◌, drop}
use Rattle.mdr_plan.specs.Numbers.{worth_after}
use Rattle.mdr_plan.proofs.number.value_of.Given as goal

abbrev pub invariant-loop-b : goal.invariant-loop-b
invariant-loop-b l = record {
  so_far : worth_after l.value (drop l.b-index l.digits) ≡ worth_after 0 l.digits;
  fits : l.value < 2 ^ 64;
}
