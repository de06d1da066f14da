-- for proofs
-- How the code of a driver runs from event to event.
use Rattle.std.specs.Prelude.{◌≡◌, ◌+◌, ◌≤◌, ℕ, suc, Bool, List}
use Rattle.mdr_core.specs.declared.place.At.{At}
use Rattle.mdr_core.specs.declared.program.Program.{Program}
use Rattle.mdr_events.specs.declared.event.Asked.{Asked as Question}
use Rattle.mdr_events.specs.declared.event.Event.{Event}
use Rattle.mdr_events.specs.declared.event.Event.TheVariants as event
use Rattle.mdr_events.specs.Events.{asked_as}
use Rattle.mdr_events.specs.Going.{RanTo}
use Rattle.mdr_events.specs.Held.{Held, tree}
use Rattle.mdr_events.specs.Steps.{child}
use Rattle.mdr_meaning.specs.declared.wire.Wire.{Wire}
use Rattle.mdr_meaning.specs.Bodies.{started}
use Rattle.mdr_meaning.specs.Cut.{cut}
use Rattle.mdr_meaning.specs.Sides.{Side}
use Rattle.mdr_meaning.specs.Tree.{Tree}
use Rattle.mdr_meaning.specs.Walk.{Accesses}
use Rattle.mdr_plain.specs.Laws.{GivesNoTicks}
use Rattle.mdr_plain.specs.Running.{Before, call}
use Rattle.mdr_plain.specs.Services.{served}
use Rattle.mdr_plain.specs.World.{World, Ran, Ended, advanced, done}
use Rattle.mdr_runs.specs.Around.{AnsweredIn, WentIn}
use Rattle.mdr_runs.specs.Following.{Stands, code_by, goes_on, runs, setting_by}
use Rattle.mdr_runs.specs.Seen.{IsSeen}

-- of a tree no more counts than the ticks that are left
abbrev pub RunsMayBeCut : Type 0
RunsMayBeCut = (program : Program) (half : Bool) (before : Before) → GivesNoTicks before
    → (r : ℕ) (t : Tree) (w : World) → w.clock.rest ≤ r → runs program half before (cut r t) w ≡ runs program half before t w

-- held work that has the tree of a called function does what the call does
abbrev pub CallsAreStarted : Type 0
CallsAreStarted =
    (program : Program) (half : Bool) (side : Side) (before : Before) → GivesNoTicks before → (func : ℕ) (args : List Wire) (depth : ℕ) (h : Held) (w : World)
    → ((f r : ℕ) → r ≤ f → tree side f h r ≡ cut r (started side (f + 1) func args depth Tree.Idle))
    → goes_on program half side before w.clock.rest h w ≡ call (code_by program half side) before func args depth w

-- held work that ran up to an event on a memory
abbrev pub Went : {M : Type 0} → (M → World) → (M → Program) → Program → (half : Bool) → Side → Before → (fuel : ℕ) → (all : Ran Wire) → Held → Event → M → Type 0
Went world_in program_in program half side before fuel all h e m = WentIn world_in program_in program (setting_by program half) side before fuel all h e m

module _ {M : Type 0} (a : Accesses M) (world_in : M → World) (program_in : M → Program) where
  -- it ran without a tick
  abbrev pub RunsStand : Type 0
  RunsStand =
      (half : Bool) (side : Side) (before : Before) → GivesNoTicks before → (h h' : Held) (m m' : M) (e : Event) (left fuel : ℕ)
      → (world_in m).clock.rest ≤ fuel → RanTo a side h m 0 e h' m' left
      → Went world_in program_in (program_in m) half side before fuel (goes_on (program_in m) half side before fuel h (world_in m)) h' e m'

  -- it wanted a tick; what is tried before it was done, the tick was counted, and it ran with one tick
  abbrev pub TicksStand : Type 0
  TicksStand =
      (half : Bool) (side : Side) (before : Before) → GivesNoTicks before → (h h' : Held) (at : At) (w w' : World) (m m' : M) (e : Event) (left fuel n : ℕ) (all : Ran Wire)
      → Stands (program_in m) half side before fuel all h (event.TicksOut at) w → done w' ≡ before h.frame.here.depth w → w'.clock.rest ≡ suc n
      → world_in m ≡ record w' { clock = advanced 1 w'.clock } → RanTo a side h m 1 e h' m' left
      → Went world_in program_in (program_in m) half side before fuel all h' e m'

-- so it is on each memory that is seen as a world
abbrev pub EachRunStands : Type 0 → Type 0
EachRunStands M = (a : Accesses M) (world_in : M → World) (program_in : M → Program) → IsSeen a world_in program_in → RunsStand a world_in program_in

abbrev pub EachTickStands : Type 0 → Type 0
EachTickStands M = (a : Accesses M) (world_in : M → World) (program_in : M → Program) → IsSeen a world_in program_in → TicksStand a world_in program_in

-- a service was served, and its question is answered
abbrev pub Answered : Program → (half : Bool) → Side → Before → (fuel : ℕ) → (all : Ran Wire) → Held → World → Type 0
Answered program half side before fuel all h w = AnsweredIn (setting_by program half) side before fuel all h w

abbrev pub ServicesAreAnswered : Type 0
ServicesAreAnswered =
    (program : Program) (half : Bool) (side : Side) (before : Before) (h h' : Held) (q : Question) (w w' : World) (results : List Wire) (fuel : ℕ) (all : Ran Wire)
    → Stands program half side before fuel all h (event.Service q) w → Ended results w' ≡ served program (asked_as q) w
    → ((f r : ℕ) → tree side f h' r ≡ child (tree side f h r) results) → Answered program half side before fuel all h' w'
