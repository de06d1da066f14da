use Rattle.std.proofs.Common.{◌≡◌, length, drop}
use Rattle.mdr_check_half.specs.Suiting.{are_named}
use Rattle.mdr_check_half.proofs.functions.are_named.Given as goal

abbrev pub invariant-loop-i : goal.invariant-loop-i
invariant-loop-i l = (length l.names ≡ length l.funcs) × (are_named (drop l.i l.names) (drop l.i l.funcs) ≡ are_named l.names l.funcs)
