-- protocol
-- What is known at a place of a file, as of the program that the file comes to (C99 6.2.1, 6.7.2.1).
use Rattle.std.specs.Prelude.{◌≡◌, ℕ, true, false, List, length, Ok, Some, slice_get}
use Rattle.mdr_core.specs.declared.program.Field.{Field}
use Rattle.mdr_core.specs.declared.program.Program.{Program}
use Rattle.mdr_core.specs.Layout.{fields_of, struct_cells}
use Rattle.mdr_core.specs.Types.{Scalar, sort_of}
use Rattle.mdr_faults.specs.declared.scope.Candidate.{Candidate}
use Rattle.mdr_faults.specs.declared.scope.Scope.{Scope}
use Rattle.mdr_faults.specs.declared.scope.StructEntry.{StructEntry}
use Rattle.mdr_sound.specs.Knowing.{Knows}

-- a scalar field of a struct, which is no array
pub record IsScalarField (program : Program) (s f : ℕ) : Type 0 where
  pub field : Field
  pub names : slice_get (fields_of program.structs s) f ≡ Some field
  pub single : field.array ≡ false
  pub scalar : sort_of (length program.structs) field.ty ≡ Scalar

pub record Stands (program : Program) (scope : Scope) : Type 0 where
  pub knows : Knows program scope
  -- a complete struct has as many cells as the scope says
  pub sizes : (s n : ℕ) (entry : StructEntry) → slice_get scope.structs s ≡ Some entry → entry.cells ≡ Ok n → length (struct_cells program.structs s) ≡ n
  -- what annotations see of a struct is so
  pub outlines : (s f : ℕ) (fields : List Candidate) (c : Candidate) → slice_get scope.outlines s ≡ Some fields → slice_get fields f ≡ Some c → c.is_scalar ≡ true → IsScalarField program s f
