-- believed
-- What is reported of a run over a far side that was loaded first.
use Rattle.std.specs.Prelude.{◌≡◌, ℕ, List, Option, None, Some}
use Rattle.mdr_core.specs.declared.plan.Plan.{Plan}
use Rattle.mdr_core.specs.declared.program.Program.{Program}
use Rattle.mdr_core.specs.declared.refusal.RefuseKind.TheVariants as refusal
use Rattle.mdr_cut.specs.declared.texts.Texts.{Texts}
use Rattle.mdr_due.specs.declared.status.Status.{Status}
use Rattle.mdr_exchanges.specs.Runs.{IsRun, run_over}
use Rattle.mdr_meaning.specs.Bodies.{known_of}
use Rattle.mdr_model.specs.declared.outcome.End.{End}
use Rattle.mdr_model.specs.declared.outcome.End.TheVariants as ends
use Rattle.mdr_outside.specs.declared.far.Exchange.{Exchange}
use Rattle.mdr_outside.specs.declared.far.LoadAnswer.{LoadAnswer}
use Rattle.mdr_outside.specs.declared.far.LoadAnswer.TheVariants as loads
use Rattle.mdr_outside.specs.declared.far.Loaded.{Loaded}
use Rattle.mdr_outside.specs.Far.{loaded_with}
use Rattle.mdr_plain.specs.declared.outcome.Outcome.{Outcome}
use Rattle.mdr_plain.specs.Outcome.{outcome_of}
use Rattle.mdr_plain.specs.Report.{report}
use Rattle.mdr_plain.specs.Scripts.{finish, first_world}
use Rattle.mdr_plain.specs.World.{World}
use Rattle.mdr_top.specs.WholeRuns.{status_of}
use Rattle.mdr_bound.specs.declared.bound.Bound.{Bound}
use Rattle.mdr_split.specs.AnyAnswers.{kernel_in}
use Rattle.mdr_watched.specs.Driver.{driver_of}

-- the outcome where the far side loaded nothing: that of a run that began nothing, with this end
abbrev pub nothing_ran : Program → Bound → (ticks : ℕ) → End → Outcome
nothing_ran program script ticks end = outcome_of program (finish end (first_world (known_of program) script ticks))

-- an outcome's status and report
pub record Reported (program : Program) (o : Outcome) (s : Status) (text : List ℕ) : Type 0 where
  pub status_is : s ≡ status_of o.end
  pub text_is : text ≡ report program o

-- the outcome of a run over a far side that was loaded first: what the run over its answers shows, or that it didn't take the texts
pub data RanTo (program : Program) (plan : Plan) (texts : Texts) (script : Bound) (ticks : ℕ) (loaded : Option Loaded) (es : List Exchange) (o : Outcome) : Type 0 where
  began : loaded ≡ Some (loaded_with texts.user texts.plan loads.Ok) → IsRun (driver_of program plan) script ticks es o → RanTo program plan texts script ticks loaded es o
  refused : (cause : ℕ) → loaded ≡ Some (loaded_with texts.user texts.plan (loads.Refused cause)) → o ≡ nothing_ran program script ticks (ends.Refused 0 refusal.Load 0) → RanTo program plan texts script ticks loaded es o
  failed : loaded ≡ Some (loaded_with texts.user texts.plan loads.Failed) → o ≡ nothing_ran program script ticks (ends.FarFault 0) → RanTo program plan texts script ticks loaded es o

-- the report of a run over what the far side answered
pub record Began (program : Program) (plan : Plan) (script : Bound) (ticks : ℕ) (es : List Exchange) (s : Status) (text : List ℕ) : Type 0 where
  pub outcome : Outcome
  pub run_is : IsRun (driver_of program plan) script ticks es outcome
  pub reported : Reported program outcome s text

-- the far side holds the texts of the user half and of the plan with its answer to them, and what is due is the report
pub data Ran (program : Program) (plan : Plan) (texts : Texts) (script : Bound) (ticks : ℕ) (loaded : Option Loaded) (es : List Exchange) (s : Status) (text : List ℕ) : Type 0 where
  began : loaded ≡ Some (loaded_with texts.user texts.plan loads.Ok) → Began program plan script ticks es s text → Ran program plan texts script ticks loaded es s text
  refused : (cause : ℕ) → loaded ≡ Some (loaded_with texts.user texts.plan (loads.Refused cause)) → Reported program (nothing_ran program script ticks (ends.Refused 0 refusal.Load 0)) s text → Ran program plan texts script ticks loaded es s text
  failed : loaded ≡ Some (loaded_with texts.user texts.plan loads.Failed) → Reported program (nothing_ran program script ticks (ends.FarFault 0)) s text → Ran program plan texts script ticks loaded es s text

-- ---- the state that a run leaves

abbrev pub left_when : LoadAnswer → (last first : World) → World
left_when loads.Ok last first = last
left_when (loads.Refused cause) last first = first
left_when loads.Failed last first = first
left_when loads.OutOfMemory last first = first

-- over a far side that was loaded first: that of the run over its answers, or the first one, in which the globals were born, where it didn't take the texts
abbrev pub world_left : Program → Plan → Bound → (ticks : ℕ) → Option Loaded → List Exchange → World
world_left program plan script ticks None es = first_world (known_of program) script ticks
world_left program plan script ticks (Some l) es = left_when l.answer (kernel_in (run_over (driver_of program plan) script ticks es).pending).world (first_world (known_of program) script ticks)
