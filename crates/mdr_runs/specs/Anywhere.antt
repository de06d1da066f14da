-- for proofs
-- How code runs from event to event, whatever stands around it.
use Rattle.std.specs.Prelude.{◌≡◌, ◌+◌, ◌≤◌, ℕ, suc, Bool, List, [], ◌∷◌}
use Rattle.mdr_core.specs.declared.place.At.{At}
use Rattle.mdr_core.specs.declared.program.Program.{Program}
use Rattle.mdr_events.specs.declared.event.Asked.{Asked as Question}
use Rattle.mdr_events.specs.declared.event.Crossing.{Crossing as Call}
use Rattle.mdr_events.specs.declared.event.Event.{Event}
use Rattle.mdr_events.specs.declared.event.Event.TheVariants as event
use Rattle.mdr_events.specs.Events.{asked_as}
use Rattle.mdr_events.specs.Going.{RanTo}
use Rattle.mdr_events.specs.Held.{Held, tree}
use Rattle.mdr_events.specs.Steps.{child}
use Rattle.mdr_events.specs.Values.{wires_of}
use Rattle.mdr_meaning.specs.declared.wire.Wire.{Wire}
use Rattle.mdr_meaning.specs.Bodies.{started}
use Rattle.mdr_meaning.specs.Cut.{cut}
use Rattle.mdr_meaning.specs.Sides.{Side}
use Rattle.mdr_meaning.specs.Tree.{Asked, Tree}
use Rattle.mdr_meaning.specs.Walk.{Accesses}
use Rattle.mdr_model.specs.declared.memory.Cell.{Cell}
use Rattle.mdr_plain.specs.Laws.{GivesNoTicks}
use Rattle.mdr_plain.specs.Running.{Before, Crossing, Setting, run}
use Rattle.mdr_plain.specs.Storage.{accesses}
use Rattle.mdr_plain.specs.World.{World, Ran, Ended, advanced, done, left}
use Rattle.mdr_runs.specs.Around.{AnsweredIn, AreSeenBy, IsSeenBy, KeepsTicks, StandsIn, WentIn, goes_on_in}

-- ---- ticks

-- where services and calls across give none back, nothing does
abbrev pub AccessesKeepTicks : Type 0
AccessesKeepTicks =
    (program : Program) (allowed : World → Cell → Bool) (serves : Asked → World → Ran (List Wire)) (crosses : Crossing)
    → ((asked : Asked) (w : World) → (left (serves asked w)).clock.rest ≤ w.clock.rest)
    → ((at : At) (func : ℕ) (args : List Wire) (depth : ℕ) (w : World) → (left (crosses at func args depth w)).clock.rest ≤ w.clock.rest)
    → KeepsTicks (record { accesses = accesses program allowed; serves = serves; crosses = crosses })

module _ (s : Setting) (before : Before) where
  -- so code doesn't either
  abbrev pub RunKeepsTicks : Type 0
  RunKeepsTicks = (t : Tree) (w : World) → (left (run s before t w)).clock.rest ≤ w.clock.rest

  -- and of a tree no more counts than the ticks that are left
  abbrev pub RunMayBeCut : Type 0
  RunMayBeCut = (r : ℕ) (t : Tree) (w : World) → w.clock.rest ≤ r → run s before (cut r t) w ≡ run s before t w

  -- held work that has the tree of a called function does what the function does
  abbrev pub CallIsStarted : Type 0
  CallIsStarted =
      (side : Side) (func : ℕ) (args : List Wire) (depth : ℕ) (h : Held) (w : World) → ((f r : ℕ) → r ≤ f → tree side f h r ≡ cut r (started side (f + 1) func args depth Tree.Idle))
      → goes_on_in s side before w.clock.rest h w ≡ run s before (started side (suc w.clock.rest) func args depth Tree.Idle) w

  -- ---- answers

  -- a service was served, and its question is answered
  abbrev pub ServiceIsAnswered : Type 0
  ServiceIsAnswered =
      (side : Side) (h h' : Held) (q : Question) (w w' : World) (results : List Wire) (fuel : ℕ) (all : Ran Wire)
      → StandsIn s side before fuel all h (event.Service q) w → Ended results w' ≡ s.serves (asked_as q) w
      → ((f r : ℕ) → tree side f h' r ≡ child (tree side f h r) results) → AnsweredIn s side before fuel all h' w'

  -- a call across gave a value
  abbrev pub CrossingIsAnswered : Type 0
  CrossingIsAnswered =
      (side : Side) (h h' : Held) (c : Call) (w w' : World) (v : Wire) (fuel : ℕ) (all : Ran Wire)
      → StandsIn s side before fuel all h (event.Cross c) w → Ended v w' ≡ s.crosses c.at c.func (wires_of c.args) c.depth w
      → ((f r : ℕ) → tree side f h' r ≡ child (tree side f h r) (v ∷ [])) → AnsweredIn s side before fuel all h' w'

  -- ---- runs

  module _ {M : Type 0} (a : Accesses M) (world_in : M → World) (program_in : M → Program) (program : Program) where
    -- it ran without a tick
    abbrev pub RunStands : Type 0
    RunStands =
        (side : Side) (h h' : Held) (m m' : M) (e : Event) (rest fuel : ℕ)
        → program_in m ≡ program → (world_in m).clock.rest ≤ fuel → RanTo a side h m 0 e h' m' rest
        → WentIn world_in program_in program s side before fuel (goes_on_in s side before fuel h (world_in m)) h' e m'

    -- it wanted a tick; what is tried before it was done, the tick was counted, and it ran with one tick
    abbrev pub TickStands : Type 0
    TickStands =
        (side : Side) (h h' : Held) (at : At) (w w' : World) (m m' : M) (e : Event) (rest fuel n : ℕ) (all : Ran Wire)
        → program_in m ≡ program → StandsIn s side before fuel all h (event.TicksOut at) w → done w' ≡ before h.frame.here.depth w → w'.clock.rest ≡ suc n
        → world_in m ≡ record w' { clock = advanced 1 w'.clock } → RanTo a side h m 1 e h' m' rest
        → WentIn world_in program_in program s side before fuel all h' e m'

-- where nothing gives a tick back
pub record EachSettingRuns : Type 0 where
  pub keeps : (s : Setting) (before : Before) → KeepsTicks s → GivesNoTicks before → RunKeepsTicks s before
  pub cut : (s : Setting) (before : Before) → KeepsTicks s → GivesNoTicks before → RunMayBeCut s before
  pub started : (s : Setting) (before : Before) → KeepsTicks s → GivesNoTicks before → CallIsStarted s before
  pub served : (s : Setting) (before : Before) → KeepsTicks s → ServiceIsAnswered s before
  pub crossed : (s : Setting) (before : Before) → KeepsTicks s → CrossingIsAnswered s before

-- on each memory that is seen as a world
pub record EachSettingStands (M : Type 0) : Type 0 where
  pub run : (s : Setting) (before : Before) → KeepsTicks s → GivesNoTicks before
      → (a : Accesses M) (world_in : M → World) (program_in : M → Program) (program : Program) → IsSeenBy s.accesses a world_in program_in program → RunStands s before a world_in program_in program
  pub tick : (s : Setting) (before : Before) → KeepsTicks s → GivesNoTicks before
      → (a : Accesses M) (world_in : M → World) (program_in : M → Program) (program : Program) → IsSeenBy s.accesses a world_in program_in program → TickStands s before a world_in program_in program

-- a memory is seen so where each access to it is
abbrev pub MemoriesAreSeen : Type 0 → Type 0
MemoriesAreSeen M =
    (around : Accesses World) (a : Accesses M) (world_in : M → World) (program_in : M → Program) (program : Program)
    → AreSeenBy around a world_in program_in program → IsSeenBy around a world_in program_in program
