use Rattle.std.proofs.Common.{◌≡◌, ◌+◌, drop}
use Rattle.mdr_meaning.specs.Numbers.{number_in}
use Rattle.mdr_numbers.proofs.types.number_in.Given as goal

abbrev pub invariant-loop-i : goal.invariant-loop-i
invariant-loop-i l = l.i + number_in (drop l.i l.types) l.ty ≡ number_in l.types l.ty
