-- protocol
-- What comes of a message that a run sends.
use Rattle.std.specs.Prelude.{◌≡◌, ℕ, List, [], ◌∷◌, ◌++◌, Option, Some, None}
use Rattle.mdr_model.specs.declared.command.Command.{Command}
use Rattle.mdr_model.specs.declared.message.Message.{Message}
use Rattle.mdr_model.specs.KernelState.{Reading}
use Rattle.mdr_model.specs.Memory.{Memory}
use Rattle.mdr_model.specs.Reading.{reading_of}
use Rattle.mdr_model.specs.Text.{text}
use Rattle.mdr_near.specs.declared.turn.Turn.{Turn}
use Rattle.mdr_near.specs.declared.turn.Turn.TheVariants as turn
use Rattle.mdr_outside.specs.declared.far.Exchange.{Exchange}
use Rattle.mdr_outside.specs.Far.{exchange}
use Rattle.mdr_bound.specs.declared.bound.Bound.{Bound}
use Rattle.mdr_split.specs.Kernel.{first_kernel, next, split_commands}
use Rattle.mdr_turns.specs.declared.state.Pending.{Pending}
use Rattle.mdr_turns.specs.declared.state.Pending.TheVariants as pending
use Rattle.mdr_turns.specs.declared.state.Waiting.{Waiting}
use Rattle.mdr_turns.specs.Coming.{ComesTo, IsLeft, KeptFor, from_waiting}
use Rattle.mdr_turns.specs.States.{IsSeen, kernel_of}
use Rattle.mdr_watch.specs.declared.watch.Watch.{Watch}
use Rattle.mdr_watched.specs.Driver.{Driver}

-- ---- an answer

-- one exchange more: bytes that have this reading, or no answer
abbrev pub Answered : Message → (old new : List Exchange) → Option Reading → Type 0
Answered m old new None = new ≡ old ++ exchange (text m) None ∷ []
Answered m old new (Some reading) = (bytes : List ℕ) × (new ≡ old ++ exchange (text m) (Some bytes) ∷ []) × (reading ≡ reading_of bytes)

-- how many messages there are with it
abbrev pub had : Option Reading → ℕ
had None = 1
had (Some reading) = 2

-- ---- a turn

-- the run of a script began so, up to its first message
abbrev pub BeginsSo : Driver → Bound → (budget : ℕ) → Pending → Type 0
BeginsSo d script budget p = ComesTo d p script.commands (split_commands d script.commands (first_kernel d script budget))

-- an answer led to this
abbrev pub LeadsTo : Driver → (script : List Command) → Waiting → Reading → Pending → Type 0
LeadsTo d script w reading p = ComesTo d p script (from_waiting d w script (next d reading))

-- its answer leads to the next state; or there was none, and the run's world is as it was, but for the sets of an open upcall
abbrev pub Turned : Driver → List Command → Message → Waiting → (old new : List Exchange) → Turn → Type 0
Turned d script m w old new (turn.Next p) =
    (bytes : List ℕ) × (new ≡ old ++ exchange (text m) (Some bytes) ∷ []) × LeadsTo d script w (reading_of bytes) p
Turned d script m w old new (turn.Unanswered number w') =
    (new ≡ old ++ exchange (text m) None ∷ []) × (number ≡ (kernel_of w).exchanges) × IsLeft (kernel_of w).world w'.world

abbrev pub messages_of : Turn → ℕ
messages_of (turn.Next p) = 2
messages_of (turn.Unanswered number w) = 1

abbrev pub IsUnanswered : Turn → Type 0
IsUnanswered (turn.Next p) = ⊥
IsUnanswered (turn.Unanswered number w) = Unit {0}

-- it is one of the run of this driver
abbrev pub KeptBy : Watch → Turn → Type 0
KeptBy watch (turn.Next p) = KeptFor watch p
KeptBy watch (turn.Unanswered number w) = w.program ≡ watch.program.now

-- ---- the memory of a place

-- where the run waits its memory is held
abbrev pub IsHeld : Pending → (old new : Memory) → Type 0
IsHeld (pending.Over end w) old new = new ≡ old
IsHeld (pending.Waits m w) old new = IsSeen w.seen → new ≡ (kernel_of w).world.memory
