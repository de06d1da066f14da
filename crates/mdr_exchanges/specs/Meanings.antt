-- believed
-- What a run over honest exchanges means.
use Rattle.std.specs.Prelude.{◌≡◌, ℕ, ◌+◌, ◌*◌, ◌≤◌, ◌⊎◌, List, [], ◌∷◌, ◌++◌, length, IfSome}
use Rattle.mdr_core.specs.Backs.{CallsNothingBack}
use Rattle.mdr_core.specs.declared.plan.Plan.{Plan}
use Rattle.mdr_core.specs.declared.program.Program.{Program}
use Rattle.mdr_core.specs.Sound.{IsSound}
use Rattle.mdr_holds.specs.Laws.{IsScript}
use Rattle.mdr_model.specs.Law.{IsOwn}
use Rattle.mdr_outside.specs.declared.far.Exchange.{Exchange}
use Rattle.mdr_over_bytes.specs.OverBytes.{IsHonestReply}
use Rattle.mdr_plain.specs.declared.outcome.Outcome.{Outcome}
use Rattle.mdr_plain.specs.Outcome.{outcome_of}
use Rattle.mdr_bound.specs.declared.bound.Bound.{Bound}
use Rattle.mdr_split.specs.Law.{HaveBodies, IsPlanOf}
use Rattle.mdr_watched.specs.Driver.{Driver, driver_of}
use Rattle.mdr_watched.specs.Watched.{watched}
use Rattle.mdr_split.specs.AnyAnswers.{kernel_in}
use Rattle.mdr_exchanges.specs.Runs.{IsFarFault, IsRun, run_over}

-- each reply that was got is the user half's reply to the messages so far, and has a spelling
abbrev pub Honest : Driver → (before : List (List ℕ)) → List Exchange → Type 0
Honest d before [] = Unit {0}
Honest d before (e ∷ es) = IfSome e.got (λ reply. IsHonestReply d before e.sent reply) × Honest d (before ++ e.sent ∷ []) es

-- the outcome of the watched run on one memory, and the state in which it ends, reached within 8 messages for each tick and 6 for each command that called a function, and within 4 for each tick where nothing is called back
pub record IsMeant (program : Program) (plan : Plan) (script : Bound) (budget : ℕ) (es : List Exchange) (o : Outcome) : Type 0 where
  pub outcome : o ≡ outcome_of program (watched program plan script budget)
  pub world : (kernel_in (run_over (driver_of program plan) script budget es).pending).world ≡ (watched program plan script budget).world
  pub own : IsOwn o.end
  pub messages : 2 * length es ≤ 8 * o.ticks + 6 * (watched program plan script budget).world.kept.calls
  pub fewer : CallsNothingBack program → 2 * length es ≤ 4 * o.ticks + 6 * (watched program plan script budget).world.kept.calls

-- each function has a body, the plan is the program's, and the script's commands fit it
pub record IsRunnable (program : Program) (plan : Plan) (script : Bound) : Type 0 where
  pub bodies : HaveBodies program
  pub planned : IsPlanOf program plan
  pub fits : IsScript program script

-- over honest exchanges the outcome is what one memory means, or the far side failed
abbrev pub MeansOneMemory : Program → Plan → Bound → (budget : ℕ) → List Exchange → Outcome → Type 0
MeansOneMemory program plan script budget es o = IsRunnable program plan script → Honest (driver_of program plan) [] es → IsFarFault o.end ⊎ IsMeant program plan script budget es o

-- so it is for each run of a sound program
abbrev pub HonestRunsAreMeant : Type 0
HonestRunsAreMeant =
    (program : Program) (plan : Plan) (script : Bound) (budget : ℕ) (es : List Exchange) (o : Outcome)
    → IsSound program → IsRun (driver_of program plan) script budget es o → MeansOneMemory program plan script budget es o
