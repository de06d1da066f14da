-- protocol
-- The reply of an event, and what is open behind it.
use Rattle.std.specs.Prelude.{◌≡◌, ◌≤◌, ℕ, suc, ◌+◌, ◌-◌, true, List, map, [], ◌∷◌}
use Rattle.mdr_core.specs.declared.place.At.{At}
use Rattle.mdr_core.specs.declared.program.Program.{Program}
use Rattle.mdr_core.specs.declared.stop.StopKind.TheVariants as stop
use Rattle.mdr_events.specs.declared.event.Asked.{Asked as Service}
use Rattle.mdr_events.specs.declared.event.Crossing.{Crossing}
use Rattle.mdr_events.specs.declared.event.Event.{Event}
use Rattle.mdr_events.specs.declared.event.Event.TheVariants as event
use Rattle.mdr_events.specs.Events.{asked_as}
use Rattle.mdr_events.specs.Going.{RanTo}
use Rattle.mdr_events.specs.Held.{tree}
use Rattle.mdr_events.specs.Ready.{IsReady, is_started}
use Rattle.mdr_events.specs.Steps.{child}
use Rattle.mdr_events.specs.Values.{wires_of}
use Rattle.mdr_exec.specs.declared.frame.Machine.{Machine}
use Rattle.mdr_exec.specs.Holding.{held_of}
use Rattle.mdr_meaning.specs.declared.wire.Wire.{Wire}
use Rattle.mdr_meaning.specs.Bodies.{started}
use Rattle.mdr_meaning.specs.Cut.{cut}
use Rattle.mdr_meaning.specs.Sides.{Side}
use Rattle.mdr_meaning.specs.Tree.{Tree}
use Rattle.mdr_meaning.specs.Values.{wire_of}
use Rattle.mdr_meaning.specs.Walk.{walk}
use Rattle.mdr_model.specs.declared.memory.Cell.{Cell}
use Rattle.mdr_model.specs.declared.message.Call.{Call}
use Rattle.mdr_model.specs.declared.message.Message.{Message}
use Rattle.mdr_model.specs.declared.message.Message.TheVariants as message
use Rattle.mdr_model.specs.declared.message.Run.{Run}
use Rattle.mdr_model.specs.declared.reply.Ask.{Ask}
use Rattle.mdr_model.specs.declared.reply.Down.{Down}
use Rattle.mdr_model.specs.declared.reply.Reply.{Reply}
use Rattle.mdr_model.specs.declared.reply.Reply.TheVariants as replies
use Rattle.mdr_model.specs.declared.reply.Return.{Return}
use Rattle.mdr_model.specs.declared.reply.Stop.{Stop}
use Rattle.mdr_model.specs.Copies.{changes, put_runs}
use Rattle.mdr_model.specs.Memory.{Memory, normal}
use Rattle.mdr_model.specs.ReplyFaults.{stop_number}
use Rattle.mdr_split.specs.Services.{ask_of, asked_now}
use Rattle.mdr_split.specs.User.{Delivered, guarded, replied_to}
use Rattle.mdr_watched.specs.Driver.{Driver}
use Rattle.mdr_user_code.specs.declared.opening.Turn.{Turn}
use Rattle.mdr_user_code.specs.declared.state.Awaits.TheVariants as awaits
use Rattle.mdr_user_code.specs.declared.state.Question.{Question}
use Rattle.mdr_user_code.specs.declared.state.State.{State}
use Rattle.mdr_user_code.specs.declared.state.Suspended.{Suspended}
use Rattle.mdr_user_memory.specs.Copied.{Copied, copy_accesses}
use Rattle.mdr_user_memory.specs.Kept.{LivesTo, past_in}
use Rattle.mdr_user_memory.specs.Lived.{lived_by}
use Rattle.mdr_split.specs.Fuel.{cut_delivered}
use Rattle.mdr_user_code.specs.Opening.{below_for, downcall, func_for, suspended_by, tree_for}
use Rattle.mdr_user_code.specs.Standing.{Opens, downs_of, held_in, kept_by, opens_below, replies_so}
use Rattle.mdr_user_code.specs.Tidings.{deaths_in, news_in}

-- ---- the machine is made ready

-- the function of a call was started in a machine that held nothing
pub record IsStarted (d : Driver) (call : Call) (m : Machine) : Type 0 where
  pub by : (fuel r : ℕ) → r ≤ fuel → tree d.user fuel (held_of d.program m) r ≡ cut r (started d.user (suc fuel) call.func call.args call.depth Tree.Idle)
  pub ready : IsReady (held_of d.program m)

-- an upcall begins, over what waits for a downcall
pub record Begins (d : Driver) (call : Call) (s s' : State) : Type 0 where
  pub memory : s'.memory ≡ s.memory
  pub named : s'.func ≡ call.func
  pub below : s'.below ≡ suspended_by (downcall s.awaits) s
  pub started : IsStarted d call s'.machine

-- a question is answered
pub record IsResumed (results : List Wire) (m m' : Machine) : Type 0 where
  pub by : (program : Program) (side : Side) (fuel r : ℕ) → tree side fuel (held_of program m') r ≡ child (tree side fuel (held_of program m) r) results
  pub ready : (program : Program) → is_started (held_of program m).items ≡ true → IsReady (held_of program m')

pub record Resumed (results : List Wire) (s s' : State) : Type 0 where
  pub memory : s'.memory ≡ s.memory
  pub func : s'.func ≡ s.func
  pub below : s'.below ≡ s.below
  pub machine : IsResumed results s.machine s'.machine

-- the machine holds what a message runs
pub record Prepared (d : Driver) (s : State) (m : Message) (s' : State) : Type 0 where
  pub memory : s'.memory ≡ s.memory
  pub func : s'.func ≡ func_for s m
  pub holds : (fuel r : ℕ) → r ≤ fuel → tree d.user fuel (held_in d s') r ≡ cut r (tree_for d fuel s m)
  pub ready : IsReady (held_in d s')
  pub below : s'.below ≡ below_for s m
  pub waits : opens_below d s'.below

-- ---- what is told

-- a question and a downcall, with their arguments as they are now
abbrev pub ask_as : (ticks : ℕ) → Memory → List Run → Service → Ask
ask_as ticks m runs q = ask_of ticks (asked_now m (asked_as q)) runs

abbrev pub down_as : (ticks : ℕ) → Memory → List Run → Crossing → Down
down_as ticks m runs c =
    record { ticks = ticks; at = c.at; depth = c.depth; func = c.func; args = map (normal m) (wires_of c.args); runs = runs }

abbrev pub return_as : (ticks : ℕ) → Wire → List Run → Return
return_as ticks v runs = record { ticks = ticks; result = v; runs = runs }

abbrev pub stop_as : (ticks number : ℕ) → At → List Run → Stop
stop_as ticks number at runs = record { ticks = ticks; stop = number; at = at; runs = runs }

abbrev pub replied_as : (ticks : ℕ) → Memory → List Run → Event → Reply
replied_as ticks m runs (event.Done v) = replies.Return (return_as ticks (normal m (wire_of v)) runs)
replied_as ticks m runs (event.Cross c) = replies.Down (down_as ticks m runs c)
replied_as ticks m runs (event.Service q) = replies.Ask (ask_as ticks m runs q)
replied_as ticks m runs (event.TicksOut at) = replies.Stop (stop_as ticks (stop_number stop.Ticks) at runs)
replied_as ticks m runs (event.Stop kind at) = replies.Stop (stop_as ticks (stop_number kind) at runs)

abbrev pub told_as : (ticks : ℕ) → Memory → List Run → Event → Message
told_as ticks m runs e = message.Reply (replied_as ticks m runs e)

abbrev pub question_as : Service → Question
question_as q = record { service = q.service; at = q.at; args = wires_of q.args; shapes = q.shapes; bytes = q.bytes }

-- where an upcall ended, the user code below it waits again
abbrev pub rested_by : List Suspended → State → State
rested_by [] s = record s { awaits = awaits.Nothing; below = [] }
rested_by (x ∷ below) s = record s { machine = x.machine; func = x.func; awaits = awaits.Back x.down; below = below }

-- a stop ends all upcalls
abbrev pub ended : State → State
ended s = record s { awaits = awaits.Nothing; below = [] }

-- what is open behind an event that left so many ticks
abbrev pub state_behind : (left : ℕ) → Event → State → State
state_behind left (event.Done v) s = rested_by s.below s
state_behind left (event.Cross c) s = record s { awaits = awaits.Back (record { func = c.func; depth = c.depth }) }
state_behind left (event.Service q) s = record s { awaits = awaits.Answer (question_as q) left }
state_behind left (event.TicksOut at) s = ended s
state_behind left (event.Stop kind at) s = ended s

-- the state behind an event: both halves agree on the changes that are told
pub record IsSettled (s : State) (rest : ℕ) (c : Copied) (e : Event) (s' : State) : Type 0 where
  pub agreed : s'.memory.agreed ≡ put_runs (changes c.view c.agreed c.memory) c.agreed
  pub past : past_in s'.memory ≡ c.past
  pub behind : s' ≡ state_behind (rest - s.machine.used) e (record s { memory = s'.memory; view = c.view })

-- ---- user code runs

-- a machine runs the user half's code over a copy, with so many ticks, up to an event
abbrev pub RunsUserCode : Driver → Machine → Copied → (ticks : ℕ) → Event → Machine → Copied → Type 0
RunsUserCode d m c ticks e m' c' = RanTo copy_accesses d.user (held_of d.program m) c ticks e (held_of d.program m') c' (ticks - m'.used)

-- what is held runs with so many ticks over the copy, whatever ticks later messages grant
pub record RunReplies (d : Driver) (s : State) (rest : ℕ) (view : List Cell) (reply : Message) (s' : State) : Type 0 where
  pub opens : Opens d s'
  pub kept : kept_by s'.awaits ≤ rest
  pub by : (fuel more : ℕ) (t : Tree) → rest + more ≤ fuel → tree d.user fuel (held_in d s) (rest + more) ≡ cut (rest + more) t
      → cut_delivered more (replied_to s.func s.entered view rest s.memory.agreed (downs_of d fuel s.below) (walk (guarded view) rest t s.memory.agreed))
      ≡ cut_delivered more (replies_so d fuel reply s')

-- what a message comes to by the definition, with so much fuel
abbrev pub replied_for : Driver → State → Message → Turn → (fuel : ℕ) → Delivered
replied_for d s m turn fuel =
    replied_to (func_for s m) turn.entered turn.sight.view turn.rest turn.sight.copy (downs_of d fuel (below_for s m))
    (walk (guarded turn.sight.view) turn.rest (tree_for d fuel s m) turn.sight.copy)

-- user code goes on with a message, whose deaths and births are those of the user half's own memory
pub record Proceeds (d : Driver) (s : State) (m : Message) (turn : Turn) (reply : Message) (s' : State) : Type 0 where
  pub opens : Opens d s'
  pub kept : kept_by s'.awaits ≤ turn.rest
  pub by : (fuel more : ℕ) → turn.rest + more ≤ fuel
      → cut_delivered more (replied_for d s m turn fuel) ≡ cut_delivered more (replies_so d fuel reply s')
  pub lived : LivesTo (lived_by d.program (deaths_in m) (news_in m)) s.memory s'.memory
