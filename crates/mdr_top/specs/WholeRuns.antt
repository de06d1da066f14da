-- believed
-- What running a script over a source on one memory does to the shelf, and what is due for it: one constructor for each way that it goes.
use Rattle.std.specs.Prelude.{◌≡◌, ℕ, true, false, List}
use Rattle.mdr_core.specs.declared.plan.Plan.{Plan}
use Rattle.mdr_core.specs.declared.program.Program.{Program}
use Rattle.mdr_cut.specs.Cuts.{IsPlanOf}
use Rattle.mdr_outside.specs.Calls.{ShelfCall}
use Rattle.mdr_model.specs.declared.outcome.End.{End}
use Rattle.mdr_model.specs.declared.outcome.End.TheVariants as ends
use Rattle.mdr_bound.specs.declared.bound.Bound.{Bound}
use Rattle.mdr_plain.specs.declared.outcome.Outcome.{Outcome}
use Rattle.mdr_plain.specs.Outcome.{outcome_of}
use Rattle.mdr_plain.specs.Plain.{plain}
use Rattle.mdr_plain.specs.Report.{report}
use Rattle.mdr_watched.specs.Watched.{watched}
use Rattle.mdr_source.specs.declared.outcome.Source.{Source}
use Rattle.mdr_due.specs.declared.status.Status.{Status}
use Rattle.mdr_due.specs.declared.status.Status.TheVariants as status
use Rattle.mdr_due.specs.Reads.{Files, WasRead, longest_source, longest_script}
use Rattle.mdr_slicer.specs.Slicing.{IsSourceOf, NoSourceOf}
use Rattle.mdr_top.specs.declared.manner.Manner.{Manner}
use Rattle.mdr_top.specs.Scripts.{IsScriptOf, NoScriptOf}

-- ---- the run

-- the status that tells how a run ended
abbrev pub status_of : End → Status
status_of ends.Ok = status.Done
status_of (ends.Stop kind at) = status.Stopped
status_of (ends.Refused exchange cause number) = status.Marshal
status_of (ends.FarFault exchange) = status.FarFault

-- the outcome of a script on one memory: that of its plain run, or where it is watched that of the run whose user half is held to the program's plan
pub data IsOutcome (program : Program) (script : Bound) (manner : Manner) (o : Outcome) : Type 0 where
  plain_run : manner.watched ≡ false → o ≡ outcome_of program (plain program script manner.ticks) → IsOutcome program script manner o
  watched_run : manner.watched ≡ true → (plan : Plan) → IsPlanOf program plan → o ≡ outcome_of program (watched program plan script manner.ticks) → IsOutcome program script manner o

-- there is one
abbrev pub OutcomeIsDetermined : Type 0
OutcomeIsDetermined = (program : Program) (script : Bound) (manner : Manner) (o other : Outcome) → IsOutcome program script manner o → IsOutcome program script manner other → o ≡ other

-- the status that it ends with
pub record EndsWith (program : Program) (script : Bound) (manner : Manner) (s : Status) : Type 0 where
  pub outcome : Outcome
  pub is_outcome : IsOutcome program script manner outcome
  pub status_is : s ≡ status_of outcome.end

-- and its report
pub record IsRun (program : Program) (script : Bound) (manner : Manner) (s : Status) (text : List ℕ) : Type 0 where
  pub outcome : Outcome
  pub is_outcome : IsOutcome program script manner outcome
  pub status_is : s ≡ status_of outcome.end
  pub text_is : text ≡ report program outcome

-- ---- all of it

-- a script is read, and run over a program where it is one
pub data RunsOver (files : Files) (program : Program) (name : List ℕ) (manner : Manner) (old new : List ShelfCall) (s : Status) (text : List ℕ) : Type 0 where
  no_script : NoScriptOf files program name old new s text → RunsOver files program name manner old new s text
  ran : (script : Bound) → IsScriptOf files program name old new script → IsRun program script manner s text → RunsOver files program name manner old new s text

-- the source is read and judged, and then the script, and the report of the run is due where there are both
pub data Runs (files : Files) (source_name script_name : List ℕ) (manner : Manner) (old new : List ShelfCall) (s : Status) (text : List ℕ) : Type 0 where
  no_source : NoSourceOf files source_name old new s text → Runs files source_name script_name manner old new s text
  sourced : (source : Source) (between : List ShelfCall) → IsSourceOf files source_name old between source → RunsOver files source.program script_name manner between new s text → Runs files source_name script_name manner old new s text

-- as much of it was done as memory was there for
pub data RunsPart (files : Files) (source_name script_name : List ℕ) (old new : List ShelfCall) : Type 0 where
  source_read : WasRead files source_name longest_source old new → RunsPart files source_name script_name old new
  script_read : (source : Source) (between : List ShelfCall) → IsSourceOf files source_name old between source → WasRead files script_name longest_script between new → RunsPart files source_name script_name old new
