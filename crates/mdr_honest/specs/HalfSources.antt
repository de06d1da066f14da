-- for proofs
-- The program of a user half's text in which no fault is found is sound.
use Rattle.std.specs.Prelude.{ℕ, Bool, List}
use Rattle.mdr_core.specs.declared.plan.Plan.{Plan}
use Rattle.mdr_core.specs.declared.program.Program.{Program}
use Rattle.mdr_core.specs.Sound.{HasFewNumbers, IsSound}
use Rattle.mdr_check.specs.Uses.{UseRule}
use Rattle.mdr_check_half.specs.Planned.{IsPlanned}
use Rattle.mdr_half_source.specs.Loads.{IsHalfProgramOf}

-- the program is sound, if the plan is one that is read, and its types, globals, structs and functions are few
abbrev pub HalvesAreSound : Type 0
HalvesAreSound =
    (bytes : List ℕ) (halves : Bool) (uses : UseRule) (plan : Plan) (program : Program) → IsHalfProgramOf bytes halves uses plan program → IsPlanned plan → HasFewNumbers program → IsSound program
