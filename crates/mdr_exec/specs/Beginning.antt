-- protocol
-- Statements begin: what comes of one, and which of its lists is entered.
use Rattle.std.specs.Prelude.{Bool, Option, Some, None}
use Rattle.mdr_core.specs.declared.place.At.{At}
use Rattle.mdr_core.specs.declared.stop.StopKind.{StopKind}
use Rattle.mdr_core.specs.Layout.{chosen}
use Rattle.mdr_events.specs.Steps.{Came, Goes, Stopped}
use Rattle.mdr_exec.specs.declared.places.Part.{Part}
use Rattle.mdr_exec.specs.declared.places.Part.TheVariants as part

-- it goes on, or stops at its place
abbrev pub came_of : Option StopKind → At → Came
came_of None at = Goes
came_of (Some kind) at = Stopped kind at

-- the list of an `if` that is entered where the test holds or not (6.8.4.1, paragraph 2)
abbrev pub branch : Bool → Part
branch holds = chosen holds part.One part.Other
