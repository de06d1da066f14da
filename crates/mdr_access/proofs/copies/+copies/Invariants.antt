use Rattle.std.proofs.Common.{◌≡◌, ◌++◌, drop}
use Rattle.mdr_access.proofs.copies.+copies.Given as goal

abbrev pub invariant-copied_types-loop-ty : goal.invariant-copied_types-loop-ty
invariant-copied_types-loop-ty l = l.copy.items ++ drop l.ty-index l.types ≡ l.types
