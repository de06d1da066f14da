use Rattle.std.proofs.Common.{◌≡◌, drop}
use Rattle.mdr_check_half.specs.Suiting.{is_bare, each_function}
use Rattle.mdr_check_half.proofs.functions.are_bare.Given as goal

abbrev pub invariant-loop-i : goal.invariant-loop-i
invariant-loop-i l = each_function is_bare (drop l.i l.halves) (drop l.i l.funcs) ≡ each_function is_bare l.halves l.funcs
