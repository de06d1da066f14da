-- protocol
-- A machine that runs a driver's code up to its next event.
use Rattle.std.specs.Prelude.{◌≡◌, ◌+◌, ◌-◌, ◌<◌, ◌≤◌, ℕ, suc, List, Bool, true, false, [], ◌∷◌}
use Rattle.mdr_core.specs.declared.place.At.{At}
use Rattle.mdr_core.specs.declared.program.Program.{Program}
use Rattle.mdr_events.specs.declared.event.Crossing.{Crossing}
use Rattle.mdr_events.specs.declared.event.Event.{Event}
use Rattle.mdr_events.specs.declared.event.Event.TheVariants as event
use Rattle.mdr_events.specs.Going.{LeavesAt, RanTo}
use Rattle.mdr_events.specs.Held.{Held, tree}
use Rattle.mdr_events.specs.Ready.{IsOpen, IsReady, takes_value}
use Rattle.mdr_events.specs.Steps.{child}
use Rattle.mdr_events.specs.Values.{wires_of}
use Rattle.mdr_exec.specs.declared.frame.Machine.{Machine}
use Rattle.mdr_exec.specs.declared.frame.Side.{Side as CodeSide}
use Rattle.mdr_exec.specs.declared.frame.Side.TheVariants as which
use Rattle.mdr_exec.specs.Halves.{side_in}
use Rattle.mdr_exec.specs.Holding.{held_of}
use Rattle.mdr_meaning.specs.declared.wire.Wire.{Wire}
use Rattle.mdr_meaning.specs.Bodies.{started}
use Rattle.mdr_meaning.specs.Cut.{cut}
use Rattle.mdr_meaning.specs.Sides.{Side}
use Rattle.mdr_meaning.specs.Tree.{Tree}
use Rattle.mdr_plain.specs.Laws.{GivesNoTicks}
use Rattle.mdr_plain.specs.Running.{Before, KernelCode, Went, Gave, Calls}
use Rattle.mdr_plain.specs.World.{World, Clock, Kept, advanced, done}
use Rattle.mdr_runs.specs.Following.{code_by, tried_by}
use Rattle.mdr_runs.specs.Upto.{Stands, goes_answered, goes_held}
use Rattle.mdr_world.specs.Driven.{Driven, driven_accesses}
use Rattle.mdr_whole.specs.declared.code.Code.{Code}
use Rattle.mdr_whole.specs.declared.next.Next.{Next}
use Rattle.mdr_whole.specs.declared.next.Next.TheVariants as next
use Rattle.mdr_whole.specs.declared.turn.Reached.{Reached}
use Rattle.mdr_whole.specs.declared.turn.Reached.TheVariants as reached
use Rattle.mdr_whole.specs.Ending.{gave_as}

-- the bodies of the functions that run
abbrev pub side_of : Code → Side
side_of c = side_in c.side c.halves.now c.program.now

-- it is one half's, and not all of the driver's
abbrev pub is_half : CodeSide → Bool
is_half which.Whole = false
is_half which.Kernel = true
is_half which.User = true

abbrev pub half_of : Code → Bool
half_of c = is_half c.side

-- the code that runs, with what stands around it
abbrev pub driver_code : Code → KernelCode
driver_code c = code_by c.program.now (half_of c) (side_of c)

-- how far the code goes that a machine holds, up to its next call of the other half, with fuel for so many ticks
abbrev pub machine_goes : Program → Side → Before → (fuel : ℕ) → Machine → World → Went
machine_goes program side before fuel machine w = goes_held program side before fuel (held_of program machine) w

-- the work that a machine holds on the code that runs, and what is tried before its ticks
abbrev pub held_in : Code → Machine → Held
held_in c machine = held_of c.program.now machine

abbrev pub tried_in : (tries : Bool) → Code → Before
tried_in tries c = tried_by tries c.program.now (half_of c) (side_of c)

-- how far it goes, with fuel for so many ticks
abbrev pub goes_in : (tries : Bool) → Code → (fuel : ℕ) → Machine → World → Went
goes_in tries c fuel machine w = machine_goes c.program.now (side_of c) (tried_in tries c) fuel machine w

-- with so many ticks it came to an event
abbrev pub RanIn : Code → Machine → Driven → (ticks : ℕ) → Event → Machine → Driven → Type 0
RanIn c machine d ticks e machine' d' =
    RanTo driven_accesses (side_of c) (held_in c machine) d ticks e (held_in c machine') d' (ticks - machine'.used)

-- a function was started in a machine that held nothing
pub record IsStarted (program : Program) (side : Side) (func : ℕ) (args : List Wire) (depth : ℕ) (machine : Machine) : Type 0 where
  pub by : (f r : ℕ) → r ≤ f → tree side f (held_of program machine) r ≡ cut r (started side (f + 1) func args depth Tree.Idle)
  pub ready : IsReady (held_of program machine)

-- a machine came to an event in a driver that runs: what follows is what all of it does, and it goes on by itself or waits for the answers
pub record StandsAt (program : Program) (side : Side) (before : Before) (fuel : ℕ) (all : Went) (machine : Machine) (e : Event) (d : Driven) : Type 0 where
  pub stands : Stands program side before fuel all (held_of program machine) e d.world
  pub same : d.program ≡ program
  pub left : LeavesAt e (held_of program machine)

-- it calls a function of the other half, and waits with fuel for the ticks that are left
abbrev pub calls_at : Side → Held → Crossing → World → Went
calls_at side h c w = Calls c.at c.func (wires_of c.args) c.depth (λ v. child (tree side w.clock.rest h w.clock.rest) (v ∷ [])) w

-- so it does where it waits for a value
pub record CallsAt (program : Program) (side : Side) (all : Went) (machine : Machine) (c : Crossing) (d : Driven) : Type 0 where
  pub is : calls_at side (held_of program machine) c d.world ≡ all
  pub same : d.program ≡ program
  pub waits : IsOpen takes_value (held_of program machine)

-- it came to the next event, or it gave what all of it gives, or it calls the other half as all of it does
abbrev pub NextAt : (program : Program) (side : Side) (before : Before) (fuel : ℕ) (all : Went) (machine : Machine) (n : Next) (d : Driven) → Type 0
NextAt program side before fuel all machine (next.Came e) d = StandsAt program side before fuel all machine e d
NextAt program side before fuel all machine (next.Gave g) d = (Gave (gave_as g d.world) ≡ all) × (d.program ≡ program)
NextAt program side before fuel all machine (next.Calls c) d = CallsAt program side all machine c d

-- it ran without a tick, from a machine in a driver
abbrev pub Began : Program → Side → Machine → Driven → Machine → Event → Driven → Type 0
Began program side machine d machine' e d' =
    (before : Before) → GivesNoTicks before → (fuel : ℕ) → d.world.clock.rest ≤ fuel
    → StandsAt program side before fuel (machine_goes program side before fuel machine d.world) machine' e d'

-- what stands before the tick that is wanted was tried, and left this world
pub record Tried (program : Program) (side : Side) (before : Before) (fuel : ℕ) (all : Went) (machine : Machine) (at : At) (w : World) : Type 0 where
  pub earlier : World
  pub wanted : Stands program side before fuel all (held_of program machine) (event.TicksOut at) earlier
  pub tried : done w ≡ before (held_of program machine).frame.here.depth earlier

-- and one tick was counted
pub record Counted (w now : World) : Type 0 where
  pub left : ℕ
  pub one : w.clock.rest ≡ suc left
  pub counted : now ≡ record w { clock = advanced 1 w.clock }

-- it ran with the tick that was counted
abbrev pub Passed : Program → Side → Machine → Driven → Machine → Event → Driven → Type 0
Passed program side machine d machine' e d' =
    (before : Before) → GivesNoTicks before → (fuel : ℕ) (all : Went) (at : At) (w : World)
    → Tried program side before fuel all machine at w → Counted w d.world → StandsAt program side before fuel all machine' e d'

-- from a clock on nothing is done before the next so many ticks, whatever memory is then
abbrev pub IsCalm : (ticks : ℕ) → Before → Kept → Clock → Type 0
IsCalm ticks before kept c = (j d : ℕ) (w : World) → j < ticks → w.kept ≡ kept → w.clock ≡ advanced j c → before d w ≡ done w

-- it ran with so many ticks, nothing was done before them, and those that it took were counted
abbrev pub RanThrough : Program → Side → Machine → Driven → (ticks : ℕ) → Machine → Event → Driven → Type 0
RanThrough program side machine d ticks machine' e d' =
    (before : Before) → GivesNoTicks before → (fuel : ℕ) (all : Went) (at : At) → IsCalm ticks before d.world.kept d.world.clock
    → StandsAt program side before fuel all machine (event.TicksOut at) d → StandsAt program side before fuel all machine' e d'

-- behind what was tried before a tick, the next event or the end
abbrev pub Follows : Program → Side → At → Machine → Driven → Machine → Next → Driven → Type 0
Follows program side at machine d machine' n d' =
    (before : Before) → GivesNoTicks before → (fuel : ℕ) (all : Went) → Tried program side before fuel all machine at d.world → NextAt program side before fuel all machine' n d'

-- and behind an event
abbrev pub GoesOn : Program → Side → Before → Machine → Event → Driven → Machine → Next → Driven → Type 0
GoesOn program side before machine e d machine' n d' =
    (fuel : ℕ) (all : Went) → StandsAt program side before fuel all machine e d → NextAt program side before fuel all machine' n d'

-- behind an event of the code that runs, with what is tried before its ticks
abbrev pub GoesOnIn : (tries : Bool) → Code → Machine → Event → Driven → Machine → Next → Driven → Type 0
GoesOnIn tries c machine e d machine' n d' = GoesOn c.program.now (side_of c) (tried_in tries c) machine e d machine' n d'

-- and whatever is tried before them
abbrev pub GoesOnAnyhow : Code → Machine → Event → Driven → Machine → Next → Driven → Type 0
GoesOnAnyhow c machine e d machine' n d' =
    (before : Before) → GivesNoTicks before → GoesOn c.program.now (side_of c) before machine e d machine' n d'

-- what follows these answers of the question that is open is what all of it does
pub record Waits (program : Program) (side : Side) (before : Before) (fuel : ℕ) (all : Went) (machine : Machine) (results : List Wire) (w : World) : Type 0 where
  pub is : goes_answered program side before fuel (held_of program machine) results w ≡ all
  pub enough : w.clock.rest ≤ fuel

-- it is answered
abbrev pub GoesOnWith : Program → Side → List Wire → Machine → Driven → Machine → Event → Driven → Type 0
GoesOnWith program side results machine d machine' e d' =
    (before : Before) → GivesNoTicks before → (fuel : ℕ) (all : Went) → Waits program side before fuel all machine results d.world → StandsAt program side before fuel all machine' e d'

-- ---- a whole run of a machine

-- how far it ran, and the world that it left
abbrev pub reached_as : Side → Reached → Held → World → Went
reached_as side (reached.Gave g) h w = Gave (gave_as g w)
reached_as side (reached.Calls c) h w = calls_at side h c w

-- with fuel for the ticks that are left, or for more
abbrev pub ReachedIn : (tries : Bool) → Code → Machine → World → Reached → Machine → World → Type 0
ReachedIn tries c machine w r machine' w' = (fuel : ℕ) → w.clock.rest ≤ fuel → reached_as (side_of c) r (held_in c machine') w' ≡ goes_in tries c fuel machine w

abbrev pub WaitsAt : Program → Reached → Machine → Type 0
WaitsAt program (reached.Gave g) machine = Unit {0}
WaitsAt program (reached.Calls c) machine = IsOpen takes_value (held_of program machine)
