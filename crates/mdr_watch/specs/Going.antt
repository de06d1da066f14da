-- protocol
-- A machine that runs user code up to its next event.
use Rattle.std.specs.Prelude.{◌≡◌, ◌+◌, ◌-◌, ◌≤◌, ℕ, List}
use Rattle.mdr_core.specs.declared.place.At.{At}
use Rattle.mdr_core.specs.declared.program.Program.{Program}
use Rattle.mdr_events.specs.declared.event.Event.{Event}
use Rattle.mdr_events.specs.declared.event.Event.TheVariants as event
use Rattle.mdr_events.specs.Going.{LeavesAt, RanTo}
use Rattle.mdr_events.specs.Held.{Held, tree}
use Rattle.mdr_events.specs.Ready.{IsReady}
use Rattle.mdr_exec.specs.declared.frame.Machine.{Machine}
use Rattle.mdr_exec.specs.Holding.{held_of}
use Rattle.mdr_meaning.specs.declared.wire.Wire.{Wire}
use Rattle.mdr_meaning.specs.Bodies.{started}
use Rattle.mdr_meaning.specs.Cut.{cut}
use Rattle.mdr_meaning.specs.Tree.{Tree}
use Rattle.mdr_plain.specs.Running.{nothing}
use Rattle.mdr_plain.specs.World.{World, Ran}
use Rattle.mdr_runs.specs.Around.{StandsIn, answered_in, goes_on_in}
use Rattle.mdr_world.specs.Driven.{Driven}
use Rattle.mdr_watch.specs.declared.next.Next.{Next}
use Rattle.mdr_watch.specs.declared.next.Next.TheVariants as next
use Rattle.mdr_whole.specs.Ending.{gave_as}
use Rattle.mdr_watch.specs.declared.watch.Activation.{Activation}
use Rattle.mdr_watch.specs.declared.watch.Upcall.{Upcall}
use Rattle.mdr_watch.specs.Guarding.{guarded_accesses}
use Rattle.mdr_watch.specs.Watching.{around_user, user_side}

-- the program of an upcall, and the work that a machine holds in it
abbrev pub program_in : Upcall → Program
program_in u = u.watch.program.now

abbrev pub held_in : Upcall → Machine → Held
held_in u machine = held_of (program_in u) machine

-- what the user code that a machine holds does in a world, with fuel for so many ticks
abbrev pub user_does : Activation → (fuel : ℕ) → Machine → World → Ran Wire
user_does a fuel machine w = goes_on_in (around_user a) (user_side a.upcall) nothing fuel (held_in a.upcall machine) w

-- with so many ticks it came to an event
abbrev pub RanIn : Upcall → Machine → Driven → (ticks : ℕ) → Event → Machine → Driven → Type 0
RanIn u machine d ticks e machine' d' =
    RanTo guarded_accesses (user_side u) (held_in u machine) d ticks e (held_in u machine') d' (ticks - machine'.used)

-- its function was started in a machine that held nothing
pub record IsStarted (a : Activation) (args : List Wire) (machine : Machine) : Type 0 where
  pub by : (f r : ℕ) → r ≤ f → tree (user_side a.upcall) f (held_in a.upcall machine) r ≡ cut r (started (user_side a.upcall) (f + 1) a.upcall.func args a.depth Tree.Idle)
  pub ready : IsReady (held_in a.upcall machine)

-- a machine came to an event in an upcall: what follows is what all of it does, and it goes on by itself or waits for the answers
pub record StandsAt (a : Activation) (fuel : ℕ) (all : Ran Wire) (machine : Machine) (e : Event) (d : Driven) : Type 0 where
  pub stands : StandsIn (around_user a) (user_side a.upcall) nothing fuel all (held_in a.upcall machine) e d.world
  pub same : d.program ≡ program_in a.upcall
  pub left : LeavesAt e (held_in a.upcall machine)

-- it came to the next event, or it gave what all of it gives
abbrev pub NextAt : (a : Activation) (fuel : ℕ) (all : Ran Wire) (machine : Machine) (n : Next) (d : Driven) → Type 0
NextAt a fuel all machine (next.Came e) d = StandsAt a fuel all machine e d
NextAt a fuel all machine (next.Gave g) d = (gave_as g d.world ≡ all) × (d.program ≡ program_in a.upcall)

-- it ran without a tick
abbrev pub Began : Activation → Machine → Driven → Machine → Event → Driven → Type 0
Began a machine d machine' e d' = (fuel : ℕ) → d.world.clock.rest ≤ fuel → StandsAt a fuel (user_does a fuel machine d.world) machine' e d'

-- it ran with all ticks that were left, and those that it took were counted
abbrev pub RanThrough : Activation → Machine → Driven → Machine → Event → Driven → Type 0
RanThrough a machine d machine' e d' = (fuel : ℕ) (all : Ran Wire) (at : At) → StandsAt a fuel all machine (event.TicksOut at) d → StandsAt a fuel all machine' e d'

-- what follows an event
abbrev pub GoesOn : Activation → Machine → Event → Driven → Machine → Next → Driven → Type 0
GoesOn a machine e d machine' n d' = (fuel : ℕ) (all : Ran Wire) → StandsAt a fuel all machine e d → NextAt a fuel all machine' n d'

-- what follows these answers of the question that is open is what all of it does
pub record Waits (a : Activation) (fuel : ℕ) (all : Ran Wire) (machine : Machine) (results : List Wire) (w : World) : Type 0 where
  pub is : answered_in (around_user a) (user_side a.upcall) nothing fuel (held_in a.upcall machine) results w ≡ all
  pub enough : w.clock.rest ≤ fuel

-- it is answered
abbrev pub GoesOnWith : Activation → List Wire → Machine → Driven → Machine → Next → Driven → Type 0
GoesOnWith a results machine d machine' n d' = (fuel : ℕ) (all : Ran Wire) → Waits a fuel all machine results d.world → NextAt a fuel all machine' n d'
