-- protocol
-- What the state of the code stands for, and what it tells of the messages so far.
use Rattle.std.specs.Prelude.{◌≡◌, ℕ, suc, ◌+◌, ◌≤◌, Bool, true, false, List, [], ◌∷◌, ◌++◌, length, Some, Ok, Err}
use Rattle.mdr_core.specs.declared.plan.Plan.{Plan}
use Rattle.mdr_core.specs.declared.program.Program.{Program}
use Rattle.mdr_events.specs.Held.{Held, bare}
use Rattle.mdr_events.specs.Ready.{IsOpen, takes_answers, takes_value}
use Rattle.mdr_events.specs.Steps.{child}
use Rattle.mdr_exec.specs.Holding.{held_of}
use Rattle.mdr_meaning.specs.declared.wire.Wire.{Wire}
use Rattle.mdr_meaning.specs.Bodies.{body_of, known_of}
use Rattle.mdr_meaning.specs.Sides.{Body}
use Rattle.mdr_meaning.specs.Tree.{Asked, Tree}
use Rattle.mdr_model.specs.declared.memory.Cell.{Cell}
use Rattle.mdr_model.specs.declared.message.Message.{Message}
use Rattle.mdr_model.specs.KernelState.{Reading}
use Rattle.mdr_model.specs.Memory.{Memory}
use Rattle.mdr_model.specs.Refusals.{is_refusal}
use Rattle.mdr_model.specs.User.{allowance, granted}
use Rattle.mdr_plain.specs.Storage.{first_memory}
use Rattle.mdr_split.specs.Fuel.{cut_delivered, cut_user}
use Rattle.mdr_split.specs.User.{AwaitsAnswer, AwaitsBack, Delivered, Down, Nothing, User, Work, deliver, first_user, user_after, user_reply}
use Rattle.mdr_user_memory.specs.Kept.{IsLived, LivesTo}
use Rattle.mdr_user_memory.specs.Lived.{Lived, lived_by, lived_of}
use Rattle.mdr_watched.specs.Driver.{Driver, driver_of, is_user}
use Rattle.mdr_user_code.specs.declared.scene.Scene.{Scene}
use Rattle.mdr_user_code.specs.declared.state.Awaits.{Awaits}
use Rattle.mdr_user_code.specs.declared.state.Awaits.TheVariants as awaits
use Rattle.mdr_user_code.specs.declared.state.Downcall.{Downcall}
use Rattle.mdr_user_code.specs.declared.state.Question.{Question}
use Rattle.mdr_user_code.specs.declared.state.State.{State}
use Rattle.mdr_user_code.specs.declared.state.Suspended.{Suspended}
use Rattle.mdr_user_code.specs.Tidings.{deaths_in, news_in}

-- each function has a half, and each of the user half a body
pub record IsFit (plan : Plan) (program : Program) : Type 0 where
  pub halves : length plan.halves ≡ length program.funcs
  pub bodies : (func : ℕ) → is_user plan func ≡ true → (body : Body) × (body_of program func ≡ Some body)

abbrev pub driver_in : Scene → Driver
driver_in s = driver_of s.program.now s.plan.now

-- ---- what the state stands for

abbrev pub asked_of : Question → Asked
asked_of q = record { service = q.service; at = q.at; args = q.args; shapes = q.shapes; bytes = q.bytes }

abbrev pub down_as : (stub : ℕ) → Downcall → (goes : List Wire → Tree) → Down
down_as stub down goes = record { stub = stub; func = down.func; depth = down.depth; goes = λ v. goes (v ∷ []) }

abbrev pub work_by : Awaits → (stub : ℕ) → List Cell → (goes : List Wire → Tree) → List Down → Work
work_by awaits.Nothing stub view goes below = Nothing
work_by (awaits.Back down) stub view goes below = AwaitsBack (down_as stub down goes) below
work_by (awaits.Answer question left) stub view goes below = AwaitsAnswer stub (asked_of question) view left goes below

-- the downcalls in which the kernel half called back
abbrev pub downs_of : Driver → (fuel : ℕ) → List Suspended → List Down
downs_of d fuel [] = []
downs_of d fuel (x ∷ below) = down_as x.func x.down (child (bare d.user fuel (held_of d.program x.machine))) ∷ downs_of d fuel below

abbrev pub held_in : Driver → State → Held
held_in d s = held_of d.program s.machine

-- with fuel for so many turns of loops and calls
abbrev pub user_of : Driver → (fuel : ℕ) → State → User
user_of d fuel s = record {
  agreed = s.memory.agreed;
  entered = s.entered;
  work = work_by s.awaits s.func s.view (child (bare d.user fuel (held_in d s))) (downs_of d fuel s.below);
}

-- the machine waits for what is awaited
abbrev pub opens_by : Awaits → Held → Type 0
opens_by awaits.Nothing h = Unit {0}
opens_by (awaits.Back down) h = IsOpen takes_value h
opens_by (awaits.Answer question left) h = IsOpen (takes_answers (asked_of question)) h

-- each machine below waits for its downcall
abbrev pub opens_below : Driver → List Suspended → Type 0
opens_below d [] = Unit {0}
opens_below d (x ∷ below) = IsOpen takes_value (held_of d.program x.machine) × opens_below d below

abbrev pub Opens : Driver → State → Type 0
Opens d s = opens_by s.awaits (held_in d s) × opens_below d s.below

-- the ticks that an answer goes on with
abbrev pub kept_by : Awaits → ℕ
kept_by awaits.Nothing = 0
kept_by (awaits.Back down) = 0
kept_by (awaits.Answer question left) = left

-- a reply, and the state after it
abbrev pub replies_so : Driver → (fuel : ℕ) → Message → State → Delivered
replies_so d fuel reply s = record { reply = reply; user = user_of d fuel s }

-- ---- births and deaths of the user half's own memory

-- those of a message come behind those so far, where it isn't refused: its deaths, and then its births
abbrev pub lived_behind : Program → (is_refused : Bool) → Reading → Lived → Lived
lived_behind program true x l = l
lived_behind program false (Ok m) l = lived_by program (deaths_in m) (news_in m) l
lived_behind program false (Err f) l = l

-- those of messages in turn, where others came before
unfoldable pub lived_from : Driver → (before : List Reading) → Lived → List Reading → Lived
lived_from d before l [] = l
lived_from d before l (x ∷ xs) = lived_from d (before ++ x ∷ []) (lived_behind d.program (is_refusal (user_reply d before x)) x l) xs

-- those of the globals, and then of all messages
abbrev pub lived_after : Driver → List Reading → Lived
lived_after d before = lived_from d [] (lived_of (first_memory (known_of d.program))) before

-- ---- one message

-- the reply to a message, and what is open after it, whatever ticks later messages grant. A refused message leaves all as it was
pub record Replies (d : Driver) (s : State) (x : Reading) (reply : Message) (s' : State) : Type 0 where
  pub kept : kept_by s'.awaits ≤ kept_by s.awaits + granted x
  pub opens : Opens d s'
  pub by : (fuel more : ℕ) → kept_by s.awaits + granted x + more ≤ fuel → cut_delivered more (deliver d (suc fuel) (user_of d fuel s) x) ≡ cut_delivered more (replies_so d fuel reply s')
  pub refused : is_refusal reply ≡ true → s' ≡ s
  pub lived : LivesTo (lived_behind d.program (is_refusal reply) x) s.memory s'.memory

-- ---- messages in turn

-- what is open after messages, whatever ticks later ones grant
pub record Follows (d : Driver) (before : List Reading) (s : State) : Type 0 where
  pub kept : kept_by s.awaits ≤ allowance before
  pub opens : Opens d s
  pub by : (fuel more : ℕ) → allowance before + more ≤ fuel → cut_user more (user_after d (suc fuel) (first_user d) before) ≡ cut_user more (user_of d fuel s)
  pub lived : IsLived (lived_after d before) s.memory

-- the reply to one message more is the definition's, whatever came before it
abbrev pub IsReplied : Driver → State → Reading → Message → Type 0
IsReplied d s x reply = (before : List Reading) → Follows d before s → reply ≡ user_reply d before x

-- and what is open behind it follows that message too
abbrev pub GoesOnTo : Driver → State → Reading → State → Type 0
GoesOnTo d s x s' = (before : List Reading) → Follows d before s → Follows d (before ++ x ∷ []) s'

-- the memory of the user half after messages, by the kernel's serials
abbrev pub user_memory : Driver → (before : List Reading) → Memory
user_memory d before = (user_after d (suc (allowance before)) (first_user d) before).agreed
