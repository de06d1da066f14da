-- protocol
-- What a step of the code comes to, as definitions have it.
use Rattle.std.specs.Prelude.{Option, Some, None}
use Rattle.mdr_meaning.specs.Values.{wire_of}
use Rattle.mdr_events.specs.Events.{asked_as}
use Rattle.mdr_events.specs.Steps.{Came, Goes, Ended, Stopped, Asks, Crosses}
use Rattle.mdr_events.specs.Values.{wires_of}
use Rattle.mdr_exec.specs.declared.event.Outcome.{Outcome}
use Rattle.mdr_exec.specs.declared.event.Outcome.TheVariants as outcome

abbrev pub came_with : Outcome → Came
came_with (outcome.Done v) = Ended (wire_of v)
came_with (outcome.Cross c) = Crosses c.at c.func (wires_of c.args) c.depth
came_with (outcome.Service q) = Asks (asked_as q)
came_with (outcome.Stop kind at) = Stopped kind at

-- an event, or the next step
abbrev pub came_as : Option Outcome → Came
came_as None = Goes
came_as (Some e) = came_with e
