-- for proofs
-- What is known at a place of a file of its globals, as of the program that the file comes to (C99 6.7.8, 6.9.2).
use Rattle.std.specs.Prelude.{◌≡◌, ℕ, List, length, Some, slice_get}
use Rattle.mdr_core.specs.declared.program.Program.{Program}
use Rattle.mdr_core.specs.declared.program.StructDef.{StructDef}
use Rattle.mdr_core.specs.Layout.{fields_of}
use Rattle.mdr_core.specs.Sound.{IsCount, IsSoundStruct}
use Rattle.mdr_core.specs.Types.{HasNumber}
use Rattle.mdr_check.specs.declared.variable.Variable.{Variable}
use Rattle.mdr_faults.specs.declared.scope.Scope.{Scope}
use Rattle.mdr_faults.specs.declared.scope.StructEntry.{StructEntry}
use Rattle.mdr_program.specs.Programs.{global_defs}
use Rattle.mdr_sound.specs.Standing.{Stands}

-- the program's globals are these variables (6.9.2), and the type table has their types
pub record HasVariables (program : Program) (vs : List Variable) : Type 0 where
  pub globals : program.globals ≡ global_defs program.types program.structs vs vs
  pub counts : (g : ℕ) (v : Variable) → slice_get vs g ≡ Some v → IsCount v.object.array v.object.count
  pub in_table : (g : ℕ) (v : Variable) → slice_get vs g ≡ Some v → HasNumber program v.object.ty

-- a place of a file of these globals, with what an initialiser there rests on (6.7.8)
pub record StandsAmong (program : Program) (scope : Scope) (vs : List Variable) : Type 0 where
  pub stands : Stands program scope
  pub variables : HasVariables program vs
  pub structs : (s : ℕ) (def : StructDef) → slice_get program.structs s ≡ Some def → IsSoundStruct program s def
  -- a complete struct has all its members (6.7.2.1)
  pub members : (s : ℕ) (entry : StructEntry) → slice_get scope.structs s ≡ Some entry → length entry.members ≡ length (fields_of program.structs s)
