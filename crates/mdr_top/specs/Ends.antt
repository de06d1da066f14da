-- protocol
-- How a run over a far side ends.
use Rattle.std.specs.Prelude.{◌≡◌, ℕ, List, Option, Some, IsSomeAnd}
use Rattle.mdr_core.specs.declared.plan.Plan.{Plan}
use Rattle.mdr_core.specs.declared.program.Program.{Program}
use Rattle.mdr_core.specs.declared.refusal.RefuseKind.TheVariants as refusal
use Rattle.mdr_cut.specs.declared.texts.Texts.{Texts}
use Rattle.mdr_due.specs.declared.status.Status.{Status}
use Rattle.mdr_exchanges.specs.Ends.{IsAsBefore, IsUnanswered}
use Rattle.mdr_exchanges.specs.Runs.{IsRun, run_over}
use Rattle.mdr_model.specs.declared.outcome.End.{End}
use Rattle.mdr_model.specs.declared.outcome.End.TheVariants as ends
use Rattle.mdr_outside.specs.declared.far.Exchange.{Exchange}
use Rattle.mdr_outside.specs.declared.far.LoadAnswer.TheVariants as loads
use Rattle.mdr_outside.specs.declared.far.Loaded.{Loaded}
use Rattle.mdr_outside.specs.Far.{loaded_with}
use Rattle.mdr_plain.specs.declared.outcome.Outcome.{Outcome}
use Rattle.mdr_top.specs.WholeRuns.{status_of}
use Rattle.mdr_bound.specs.declared.bound.Bound.{Bound}
use Rattle.mdr_split.specs.AnyAnswers.{kernel_in}
use Rattle.mdr_top.specs.Reports.{Ran}
use Rattle.mdr_watched.specs.Driver.{Driver, driver_of}

-- where the far side ended a run that began: the last answer isn't legal where the run waited for it, and this is its exchange and its first fault; or the run waits for an answer to the last message, which has none, and this is its exchange
abbrev pub IsDueToFar : Driver → Bound → (ticks : ℕ) → List Exchange → End → Type 0
IsDueToFar d script ticks es end = IsAsBefore d script ticks es (kernel_in (run_over d script ticks es).pending).world.memory end

-- how a run ends: by what the far side answered to the load, and then to the messages
pub data Ends (program : Program) (plan : Plan) (texts : Texts) (script : Bound) (ticks : ℕ) (loaded : Option Loaded) (es : List Exchange) (end : End) : Type 0 where
  began : (o : Outcome) → loaded ≡ Some (loaded_with texts.user texts.plan loads.Ok) → IsRun (driver_of program plan) script ticks es o → end ≡ o.end → IsDueToFar (driver_of program plan) script ticks es end → Ends program plan texts script ticks loaded es end
  refused : (cause : ℕ) → loaded ≡ Some (loaded_with texts.user texts.plan (loads.Refused cause)) → end ≡ ends.Refused 0 refusal.Load 0 → Ends program plan texts script ticks loaded es end
  failed : loaded ≡ Some (loaded_with texts.user texts.plan loads.Failed) → end ≡ ends.FarFault 0 → Ends program plan texts script ticks loaded es end

-- an end that is so, and its status
pub record EndsWith (program : Program) (plan : Plan) (texts : Texts) (script : Bound) (ticks : ℕ) (loaded : Option Loaded) (es : List Exchange) (s : Status) : Type 0 where
  pub end : End
  pub ends : Ends program plan texts script ticks loaded es end
  pub status_is : s ≡ status_of end

-- the far side failed at the load, or at the last message, which has no answer
pub data FailedLast (loaded : Option Loaded) (es : List Exchange) : Type 0 where
  at_load : IsSomeAnd loaded (λ load. load.answer ≡ loads.Failed) → FailedLast loaded es
  at_message : (number : ℕ) → IsUnanswered es number → FailedLast loaded es

-- whatever the far side answers
abbrev pub SplitRunsEnd : Type 0
SplitRunsEnd =
    (program : Program) (plan : Plan) (texts : Texts) (script : Bound) (ticks : ℕ) (loaded : Option Loaded) (es : List Exchange) (s : Status) (text : List ℕ)
    → Ran program plan texts script ticks loaded es s text → EndsWith program plan texts script ticks loaded es s
