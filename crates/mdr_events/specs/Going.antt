-- protocol
-- What a run comes to.
use Rattle.std.specs.Prelude.{◌≡◌, ℕ}
use Rattle.mdr_meaning.specs.Sides.{Side}
use Rattle.mdr_meaning.specs.Values.{wire_of}
use Rattle.mdr_meaning.specs.Walk.{Accesses}
use Rattle.mdr_events.specs.declared.event.Event.{Event}
use Rattle.mdr_events.specs.declared.event.Event.TheVariants as event
use Rattle.mdr_events.specs.Events.{asked_as}
use Rattle.mdr_events.specs.Held.{Held}
use Rattle.mdr_events.specs.Ready.{IsOpen, IsReady, takes_answers, takes_value}
use Rattle.mdr_events.specs.Running.{RunsTo, WantsTick}
use Rattle.mdr_events.specs.Steps.{Goes, Ended, Stopped, Asks, Crosses}
use Rattle.mdr_events.specs.Values.{wires_of}

-- a run with so many ticks comes to this and leaves so many, however many more there are. Where it wants a tick none is left, and the work that is held begins with a tick
abbrev pub RanTo : {M : Type 0} → Accesses M → Side → Held → M → (ticks : ℕ) → Event → Held → M → (left : ℕ) → Type 0
RanTo a side h m ticks (event.Done v) h' m' left = RunsTo a side h m ticks (Ended (wire_of v)) h' m' left
RanTo a side h m ticks (event.Cross c) h' m' left = RunsTo a side h m ticks (Crosses c.at c.func (wires_of c.args) c.depth) h' m' left
RanTo a side h m ticks (event.Service q) h' m' left = RunsTo a side h m ticks (Asks (asked_as q)) h' m' left
RanTo a side h m ticks (event.Stop kind at) h' m' left = RunsTo a side h m ticks (Stopped kind at) h' m' left
RanTo a side h m ticks (event.TicksOut at) h' m' left = (left ≡ 0) × RunsTo a side h m ticks Goes h' m' left × WantsTick side h' at h'.frame.here.depth

-- what it leaves, where it began ready: work that goes on, or that waits for the answers to its question
abbrev pub LeavesAt : Event → Held → Type 0
LeavesAt (event.Done v) h = Unit {0}
LeavesAt (event.Cross c) h = IsOpen takes_value h
LeavesAt (event.Service q) h = IsOpen (takes_answers (asked_as q)) h
LeavesAt (event.Stop kind at) h = Unit {0}
LeavesAt (event.TicksOut at) h = IsReady h
