-- protocol
-- What follows an event of a driver's code, up to its next call of the other half.
use Rattle.std.specs.Prelude.{◌≡◌, ◌≤◌, ℕ, List, [], ◌∷◌, Some}
use Rattle.mdr_core.specs.declared.program.Program.{Program}
use Rattle.mdr_events.specs.declared.event.Event.{Event}
use Rattle.mdr_events.specs.declared.event.Event.TheVariants as event
use Rattle.mdr_events.specs.Events.{asked_as}
use Rattle.mdr_events.specs.Held.{Held, tree}
use Rattle.mdr_events.specs.Steps.{child}
use Rattle.mdr_events.specs.Values.{wires_of}
use Rattle.mdr_meaning.specs.declared.wire.Wire.{Wire}
use Rattle.mdr_meaning.specs.Cut.{cut}
use Rattle.mdr_meaning.specs.Sides.{Side}
use Rattle.mdr_meaning.specs.Tree.{Tree}
use Rattle.mdr_meaning.specs.Values.{wire_of}
use Rattle.mdr_model.specs.Memory.{normal}
use Rattle.mdr_plain.specs.Running.{Before, Went, Gave, Calls, all_cells, gave_after, goes}
use Rattle.mdr_plain.specs.Services.{served}
use Rattle.mdr_plain.specs.Storage.{accesses}
use Rattle.mdr_plain.specs.World.{World, Ended, Stopped, left}
use Rattle.mdr_runs.specs.Around.{Wants}

-- how far a driver's code goes
abbrev pub goes_by : Program → Before → Tree → World → Went
goes_by program before t w = goes (accesses program all_cells) (served program) before t w

-- the state that it leaves
abbrev pub went_left : Went → World
went_left (Gave ran) = left ran
went_left (Calls at f args depth next w) = w

-- held work, with fuel for so many ticks
abbrev pub goes_held : Program → Side → Before → (fuel : ℕ) → Held → World → Went
goes_held program side before f h w = goes_by program before (tree side f h f) w

-- what follows the answers of the question that it waits for
abbrev pub goes_answered : Program → Side → Before → (fuel : ℕ) → Held → List Wire → World → Went
goes_answered program side before f h results w = goes_by program before (child (tree side f h f) results) w

-- what follows an event, where this work is held
abbrev pub goes_behind : Program → Side → Before → (fuel : ℕ) → Held → Event → World → Went
goes_behind program side before f h (event.Done v) w = Gave (Ended (normal w.memory (wire_of v)) w)
goes_behind program side before f h (event.Stop kind at) w = Gave (Stopped kind (Some at) w)
goes_behind program side before f h (event.Service q) w = gave_after (served program (asked_as q) w) (goes_answered program side before f h)
goes_behind program side before f h (event.Cross c) w = Calls c.at c.func (wires_of c.args) c.depth (λ v. cut w.clock.rest (child (tree side f h f) (v ∷ []))) w
goes_behind program side before f h (event.TicksOut at) w = goes_held program side before f h w

-- code that came to an event: what follows is how far all of it goes, and there is fuel for the ticks that are left
pub record Stands (program : Program) (side : Side) (before : Before) (fuel : ℕ) (all : Went) (h : Held) (e : Event) (w : World) : Type 0 where
  pub is : goes_behind program side before fuel h e w ≡ all
  pub enough : w.clock.rest ≤ fuel
  pub wants : Wants side h e
