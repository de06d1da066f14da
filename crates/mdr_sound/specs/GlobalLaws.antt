-- for proofs
-- What holds of all globals of a file.
use Rattle.std.specs.Prelude.{◌≡◌, ℕ, List, Option, Some, slice_get}
use Rattle.mdr_core.specs.declared.program.Program.{Program}
use Rattle.mdr_core.specs.Sound.{IsSoundGlobal}
use Rattle.mdr_syntax.specs.declared.tree.Decl.{Decl}
use Rattle.mdr_syntax.specs.declared.tree.Init.{Init}
use Rattle.mdr_check.specs.declared.variable.Variable.{Variable}
use Rattle.mdr_check.specs.Globals.{behind_global, global}
use Rattle.mdr_faults.specs.declared.scope.Scope.{Scope}
use Rattle.mdr_faults.specs.Faults.{Right}
use Rattle.mdr_program.specs.Programs.{global_def}
use Rattle.mdr_sound.specs.Globals.{StandsAmong}

-- a global in which no fault is found is a sound one, and what is known behind it is so
pub record IsGoodGlobal (program : Program) (scope : Scope) (own : ℕ) (d : Decl) (vs : List Variable) (v : Variable) : Type 0 where
  pub sound : IsSoundGlobal program own (global_def program.types program.structs vs v)
  pub behind : StandsAmong program (behind_global scope own d) vs

abbrev pub GlobalsAreSound : Type 0
GlobalsAreSound = (program : Program) (scope : Scope) (own : ℕ) (d : Decl) (init : Option Init) (vs : List Variable) (v : Variable)
    → StandsAmong program scope vs → slice_get vs own ≡ Some v → global scope own d init ≡ Right v → IsGoodGlobal program scope own d vs v
