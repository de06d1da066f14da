use Rattle.std.proofs.Common.{◌≡◌, ◌++◌, drop}
use Rattle.mdr_exec.proofs.ParamLaws.{numbers_in}
use Rattle.mdr_exec.proofs.params.numbers_of.Given as goal

abbrev pub invariant-loop-i : goal.invariant-loop-i
invariant-loop-i l = l.numbers ++ numbers_in l.i (drop l.i l.params) ≡ numbers_in 0 l.params
