-- believed
-- What holds whatever the answers are: one that isn't legal changes nothing, one that is changes visible cells alone, and messages are few.
use Rattle.std.specs.Prelude.{◌≡◌, ℕ, ◌+◌, ◌*◌, ◌≤◌, List, [], ◌∷◌, ◌++◌, Option, Some, None, Ok, Err}
use Rattle.mdr_core.specs.declared.refusal.RefuseKind.{RefuseKind}
use Rattle.mdr_core.specs.declared.refusal.RefuseKind.TheVariants as refusal
use Rattle.mdr_model.specs.declared.command.Command.{Command}
use Rattle.mdr_model.specs.declared.message.Fault.{Fault}
use Rattle.mdr_model.specs.declared.message.Message.{Message}
use Rattle.mdr_model.specs.declared.outcome.End.TheVariants as ends
use Rattle.mdr_model.specs.declared.reply.Reply.{Reply}
use Rattle.mdr_model.specs.Copies.{put_runs}
use Rattle.mdr_model.specs.Faults.{fault}
use Rattle.mdr_model.specs.KernelState.{Reading}
use Rattle.mdr_model.specs.Legal.{IsContained, runs_told}
use Rattle.mdr_model.specs.ReplyFaults.{reply_of}
use Rattle.mdr_bound.specs.declared.bound.Bound.{Bound}
use Rattle.mdr_split.specs.Kernel.{refused, split_run}
use Rattle.mdr_split.specs.Legal.{fault_of}
use Rattle.mdr_split.specs.State.{Kernel, Open, Rest, Pending, Over, Waits}
use Rattle.mdr_watched.specs.Driver.{Driver}
use Rattle.mdr_watched.specs.Views.{top}

-- the first fault of a message: it is no reply, or the reply has one
abbrev pub message_fault : Driver → Kernel → Open → Rest → Option Reply → Option Fault
message_fault d k upcall rest None = Some (fault refusal.NotAwaited 0)
message_fault d k upcall rest (Some reply) = fault_of d k upcall rest reply

-- the first fault of an answer: it is no message, or the message has one
abbrev pub answer_fault : Driver → Kernel → Open → Rest → Reading → Option Fault
answer_fault d k upcall rest (Err f) = Some f
answer_fault d k upcall rest (Ok m) = message_fault d k upcall rest (reply_of m)

-- nothing is at fault in an answer, where the run waits in this state
abbrev pub IsLegal : Driver → Kernel → Open → Rest → Reading → Type 0
IsLegal d k upcall rest a = answer_fault d k upcall rest a ≡ None

-- ---- an answer that isn't legal

-- a run that waits in state k gets one answer more. With a fault in the answer the run ends there: no message more is sent, and the whole state is still k, with its ticks, memory, visible cells, agreed copy and events. No other answer ends it so
pub record EndsUnchanged (d : Driver) (script : Bound) (budget : ℕ) (answers : List Reading) (a : Reading) (k : Kernel) (upcall : Open) (rest : Rest) : Type 0 where
  pub refuses :
      (f : Fault) → answer_fault d k upcall rest a ≡ Some f
      → split_run d script budget (answers ++ a ∷ []) ≡ record { sent = (split_run d script budget answers).sent; pending = refused f k }
  pub only :
      (exchange : ℕ) (cause : RefuseKind) (number : ℕ) (k' : Kernel)
      → (split_run d script budget (answers ++ a ∷ [])).pending ≡ Over (ends.Refused exchange cause number) k'
      → (answer_fault d k upcall rest a ≡ Some (fault cause number)) × (exchange ≡ k.exchanges) × (k' ≡ k)

abbrev pub RefusedChangesNothing : Type 0
RefusedChangesNothing =
    (d : Driver) (script : Bound) (budget : ℕ) (answers : List Reading) (a : Reading) (m : Message) (k : Kernel) (upcall : Open) (rest : Rest) (left : List Command)
    → (split_run d script budget answers).pending ≡ Waits m k upcall rest left → EndsUnchanged d script budget answers a k upcall rest

-- ---- a legal answer

-- wherever a run waits, the storing of a legal reply changes cells that user code may touch, no lock and no block, and nothing else
abbrev pub LegalIsContained : Type 0
LegalIsContained =
    (d : Driver) (script : Bound) (budget : ℕ) (answers : List Reading) (reply : Reply) (m : Message) (k : Kernel) (upcall : Open) (rest : Rest) (left : List Command)
    → (split_run d script budget answers).pending ≡ Waits m k upcall rest left → fault_of d k upcall rest reply ≡ None
    → IsContained d.program k.world.memory (put_runs (runs_told reply) k.world.memory) (top k.world.views)

-- ---- any answers

abbrev pub kernel_in : Pending → Kernel
kernel_in (Over end k) = k
kernel_in (Waits m k upcall rest script) = k

-- whatever the answers are, the messages sent and answered are at most 8 for each tick and 6 for each command that called a function
abbrev pub MessagesAreFew : Type 0
MessagesAreFew =
    (d : Driver) (script : Bound) (budget : ℕ) (answers : List Reading) → let k : Kernel = kernel_in (split_run d script budget answers).pending in
    2 * k.exchanges ≤ 8 * k.world.clock.ticks + 6 * k.world.kept.calls
