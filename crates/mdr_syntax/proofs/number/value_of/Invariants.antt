use Rattle.std.proofs.Common.{◌≡◌, ◌<◌, ◌^◌, drop}
use Rattle.mdr_syntax.specs.Numbers.{worth_after}
use Rattle.mdr_syntax.proofs.number.value_of.Given as goal

abbrev pub invariant-loop-b : goal.invariant-loop-b
invariant-loop-b l = record {
  so_far : worth_after l.radix l.value (drop l.b-index l.digits) ≡ worth_after l.radix 0 l.digits;
  fits : l.value < 2 ^ 64;
}
