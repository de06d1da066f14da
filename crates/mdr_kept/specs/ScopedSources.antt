-- for proofs
-- The program of a source in which no fault is found names objects of locals only where they live (C99 6.2.1, 6.2.4).
use Rattle.std.specs.Prelude.{ℕ, Bool, List}
use Rattle.mdr_core.specs.declared.program.Program.{Program}
use Rattle.mdr_core.specs.Sound.{HasFewNumbers}
use Rattle.mdr_check.specs.Uses.{UseRule}
use Rattle.mdr_kept.specs.Scopes.{IsScoped}
use Rattle.mdr_sound.specs.Sources.{IsProgramOf}

-- if its types, globals, structs and functions are few
abbrev pub SourcesAreScoped : Type 0
SourcesAreScoped = (bytes : List ℕ) (halves : Bool) (uses : UseRule) (program : Program) → IsProgramOf bytes halves uses program → HasFewNumbers program → IsScoped program
