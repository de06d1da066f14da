-- for proofs
-- Programs of sources that keep their annotations.
use Rattle.std.specs.Prelude.{◌≡◌, ℕ, Bool, List}
use Rattle.mdr_check.specs.Uses.{UseRule}
use Rattle.mdr_core.specs.declared.plan.Plan.{Plan}
use Rattle.mdr_core.specs.declared.program.Program.{Program}
use Rattle.mdr_core.specs.Sound.{HasFewNumbers}
use Rattle.mdr_holds.specs.Laws.{HaveBodies, IsScript}
use Rattle.mdr_plain.specs.Outcome.{outcome_of}
use Rattle.mdr_plain.specs.Plain.{plain}
use Rattle.mdr_plain.specs.Report.{report}
use Rattle.mdr_kept.specs.ReportLaws.{IsSliced}
use Rattle.mdr_bound.specs.declared.bound.Bound.{Bound}
use Rattle.mdr_sound.specs.Sources.{IsProgramOf}
use Rattle.mdr_watched.specs.Kept.{Kept}
use Rattle.mdr_watched.specs.Watched.{watched}

-- the program of a source in which each function has a body, with a plan that has the slicer's halves: where a run keeps its annotations, watched it has the plain run's report
abbrev pub SourcesKeepReports : Type 0
SourcesKeepReports =
    (bytes : List ℕ) (halves : Bool) (uses : UseRule) (program : Program) (plan : Plan) (script : Bound) (budget : ℕ)
    → IsProgramOf bytes halves uses program → HasFewNumbers program → HaveBodies program
    → IsSliced program plan → IsScript program script → Kept program plan script budget
    → report program (outcome_of program (watched program plan script budget)) ≡ report program (outcome_of program (plain program script budget))
