-- protocol
-- How a run ends that the far side ends, and how many messages there are.
use Rattle.std.specs.Prelude.{◌≡◌, ℕ, ◌+◌, ◌*◌, ◌≤◌, List, [], ◌∷◌, ◌++◌, map, length, Some, None}
use Rattle.mdr_watched.specs.Driver.{Driver}
use Rattle.mdr_outside.specs.declared.far.Exchange.{Exchange}
use Rattle.mdr_core.specs.declared.refusal.RefuseKind.{RefuseKind}
use Rattle.mdr_model.specs.declared.command.Command.{Command}
use Rattle.mdr_bound.specs.declared.bound.Bound.{Bound}
use Rattle.mdr_model.specs.declared.message.Message.{Message}
use Rattle.mdr_model.specs.declared.outcome.End.{End}
use Rattle.mdr_model.specs.declared.outcome.End.TheVariants as ends
use Rattle.mdr_model.specs.Memory.{Memory}
use Rattle.mdr_model.specs.Faults.{fault}
use Rattle.mdr_model.specs.Reading.{reading_of}
use Rattle.mdr_model.specs.Text.{text}
use Rattle.mdr_split.specs.State.{Kernel, Open, Rest, Waits}
use Rattle.mdr_over_bytes.specs.OverBytes.{split_run_over_bytes}
use Rattle.mdr_split.specs.AnyAnswers.{answer_fault, kernel_in}
use Rattle.mdr_exchanges.specs.Runs.{HasEnded, answers_of, run_over, sent_of}

-- ---- a run that the far side ended

-- over these answers the run waits for one more, and the memory is the one in which it waits: what the last legal answer led to
pub record HasWaited (d : Driver) (script : Bound) (budget : ℕ) (answers : List (List ℕ)) (memory : Memory) : Type 0 where
  pub message : Message
  pub kernel : Kernel
  pub upcall : Open
  pub rest : Rest
  pub left : List Command
  pub waits : (split_run_over_bytes d script budget answers).pending ≡ Waits message kernel upcall rest left
  pub same : memory ≡ kernel.world.memory

-- the last answer isn't legal where the run waited for it: this is its exchange, and its first fault
pub record WasRefused (d : Driver) (script : Bound) (budget : ℕ) (answers : List (List ℕ)) (exchange : ℕ) (cause : RefuseKind) (number : ℕ) (memory : Memory) : Type 0 where
  pub before : List (List ℕ)
  pub last : List ℕ
  pub all : answers ≡ before ++ last ∷ []
  pub waited : HasWaited d script budget before memory
  pub counted : exchange ≡ waited.kernel.exchanges
  pub refused : answer_fault d waited.kernel waited.upcall waited.rest (reading_of last) ≡ Some (fault cause number)

-- the last of these exchanges has no answer, and this is its number, from 1
pub record IsUnanswered (es : List Exchange) (number : ℕ) : Type 0 where
  pub before : List Exchange
  pub last : Exchange
  pub all : es ≡ before ++ last ∷ []
  pub none : last.got ≡ None
  pub counted : number ≡ length es

-- the run waits for an answer to the last message, which has none: this is its exchange
pub record HasFailed (d : Driver) (script : Bound) (budget : ℕ) (es : List Exchange) (exchange : ℕ) (memory : Memory) : Type 0 where
  pub waited : HasWaited d script budget (answers_of es) memory
  pub counted : exchange ≡ waited.kernel.exchanges
  pub unanswered : IsUnanswered es exchange

-- where the far side ended the run, by an answer that is refused or by none, memory is what it was before
abbrev pub IsAsBefore : Driver → Bound → ℕ → List Exchange → Memory → End → Type 0
IsAsBefore d script budget es memory ends.Ok = Unit {0}
IsAsBefore d script budget es memory (ends.Stop kind at) = Unit {0}
IsAsBefore d script budget es memory (ends.Refused exchange cause number) = WasRefused d script budget (answers_of es) exchange cause number memory
IsAsBefore d script budget es memory (ends.FarFault exchange) = HasFailed d script budget es exchange memory

-- ---- any far side

-- the messages are at most 8 for each tick and 6 for each command begun
abbrev pub AreFew : Driver → Bound → ℕ → List Exchange → (messages ticks : ℕ) → Type 0
AreFew d script budget es messages ticks = messages ≤ 8 * ticks + 6 * (kernel_in (run_over d script budget es).pending).world.kept.calls

-- ---- laws

-- wherever the far side ended a run, memory is what it was before
abbrev pub EndedRunsAreAsBefore : Type 0
EndedRunsAreAsBefore =
    (d : Driver) (script : Bound) (budget : ℕ) (es : List Exchange) (end : End) (k : Kernel) → HasEnded d script budget es end k → IsAsBefore d script budget es k.world.memory end

-- the messages and answers of exchanges whose messages are the run's
abbrev pub ExchangesAreFew : Type 0
ExchangesAreFew =
    (d : Driver) (script : Bound) (budget : ℕ) (es : List Exchange) → sent_of es ≡ map text (run_over d script budget es).sent
    → length es + length (answers_of es) ≤ 8 * (kernel_in (run_over d script budget es).pending).world.clock.ticks + 6 * (kernel_in (run_over d script budget es).pending).world.kept.calls
