-- believed
-- What a run of the kernel half comes to, over what the far side answered.
use Rattle.std.specs.Prelude.{◌≡◌, ℕ, List, [], ◌∷◌, map, Option, Some, None}
use Rattle.mdr_watched.specs.Driver.{Driver}
use Rattle.mdr_outside.specs.declared.far.Exchange.{Exchange}
use Rattle.mdr_bound.specs.declared.bound.Bound.{Bound}
use Rattle.mdr_model.specs.declared.outcome.End.{End}
use Rattle.mdr_model.specs.declared.outcome.End.TheVariants as ends
use Rattle.mdr_plain.specs.declared.outcome.Outcome.{Outcome}
use Rattle.mdr_model.specs.Text.{text}
use Rattle.mdr_plain.specs.Scripts.{Finish, finish}
use Rattle.mdr_split.specs.State.{Kernel, Pending, Over, Waits}
use Rattle.mdr_split.specs.Kernel.{SplitRun}
use Rattle.mdr_over_bytes.specs.OverBytes.{split_run_over_bytes}
use Rattle.mdr_split.specs.AnyAnswers.{kernel_in}
use Rattle.mdr_plain.specs.Outcome.{outcome_of}
use Rattle.mdr_msg.specs.OverBytes.{HaveSpellings}

-- ---- what the far side holds

-- the bytes that were sent
abbrev pub sent_of : List Exchange → List (List ℕ)
sent_of es = map (λ (e : Exchange). e.sent) es

abbrev pub then_answers : Option (List ℕ) → List (List ℕ) → List (List ℕ)
then_answers None more = []
then_answers (Some bytes) more = bytes ∷ more

-- the answers, up to the first message that has none
abbrev pub answers_of : List Exchange → List (List ℕ)
answers_of [] = []
answers_of (e ∷ es) = then_answers e.got (answers_of es)

-- ---- a run

-- the split run over these answers
abbrev pub run_over : Driver → Bound → ℕ → List Exchange → SplitRun
run_over d script budget es = split_run_over_bytes d script budget (answers_of es)

-- how it ended: where it waits for an answer the far side failed
abbrev pub finish_of : Pending → Finish
finish_of (Over end k) = finish end k.world
finish_of (Waits m k upcall rest left) = finish (ends.FarFault k.exchanges) k.world

-- the messages are sent byte for byte, each has a spelling, and the outcome is the run's
pub record IsRun (d : Driver) (script : Bound) (budget : ℕ) (es : List Exchange) (o : Outcome) : Type 0 where
  pub messages : sent_of es ≡ map text (run_over d script budget es).sent
  pub spelled : HaveSpellings (run_over d script budget es).sent
  pub outcome : o ≡ outcome_of d.program (finish_of (run_over d script budget es).pending)

abbrev pub IsFarFault : End → Type 0
IsFarFault ends.Ok = ⊥
IsFarFault (ends.Stop kind at) = ⊥
IsFarFault (ends.Refused exchange cause number) = ⊥
IsFarFault (ends.FarFault exchange) = Unit {0}

-- the same before the outcome is made
pub record HasEnded (d : Driver) (script : Bound) (budget : ℕ) (es : List Exchange) (end : End) (k : Kernel) : Type 0 where
  pub messages : sent_of es ≡ map text (run_over d script budget es).sent
  pub spelled : HaveSpellings (run_over d script budget es).sent
  pub ended : finish_of (run_over d script budget es).pending ≡ finish end k.world
  pub kernel : kernel_in (run_over d script budget es).pending ≡ k
