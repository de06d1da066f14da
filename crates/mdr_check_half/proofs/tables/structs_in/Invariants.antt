use Rattle.std.proofs.Common.{◌≡◌, ◌+◌, ◌≤◌, drop}
use Rattle.mdr_check_half.specs.Suiting.{structs_in}
use Rattle.mdr_check_half.proofs.tables.structs_in.Given as goal

abbrev pub invariant-loop-ty : goal.invariant-loop-ty
invariant-loop-ty l = (l.count + structs_in (drop l.ty-index l.types) ≡ structs_in l.types) × (l.count ≤ l.ty-index)
