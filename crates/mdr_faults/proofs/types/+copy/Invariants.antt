use Rattle.std.proofs.Common.{◌≡◌, drop, ◌++◌}
use Rattle.mdr_faults.proofs.types.+copy.Given as goal

abbrev pub invariant-copied_types-loop-ty : goal.invariant-copied_types-loop-ty
invariant-copied_types-loop-ty l = l.all ++ drop l.ty-index l.types ≡ l.types
