-- believed
-- The state of a run: what code runs on, and what runs around it.
use Rattle.std.specs.Prelude.{ℕ, zero, suc, ◌+◌, ◌-◌, Bool, List, [], ◌∷◌, ◌++◌, Option, Some, Result, Ok, Err}
use Rattle.mdr_core.specs.declared.place.At.{At}
use Rattle.mdr_core.specs.declared.stop.StopKind.{StopKind}
use Rattle.mdr_core.specs.declared.stop.StopKind.TheVariants as stop
use Rattle.mdr_device.specs.Machines.{Machine, advanced as passed}
use Rattle.mdr_mem.specs.declared.cells.Life.{Life}
use Rattle.mdr_model.specs.declared.memory.Cell.{Cell}
use Rattle.mdr_model.specs.Memory.{Memory}
use Rattle.mdr_plain.specs.declared.outcome.Happened.{Happened}

-- the ticks that were counted, those that the budget leaves, and the device, for which time passes by them
pub record Clock : Type 0 where
  pub ticks : ℕ
  pub rest : ℕ
  pub device : Machine

-- so many ticks pass
abbrev pub advanced : ℕ → Clock → Clock
advanced n c = record { ticks = c.ticks + n; rest = c.rest - n; device = passed n c.device }

-- what services and commands alone change
pub record Kept : Type 0 where
  pub events : List Happened
  -- how many `call` commands began
  pub calls : ℕ
  -- the function that handles interrupts, and whether it runs now
  pub handler : Option ℕ
  pub in_handler : Bool
  -- how many allocations were asked for, and the numbers of those that fail
  pub allocations : ℕ
  pub fails : List ℕ

-- a run's state: its live blocks, all births and deaths in order, the visible sets of the upcalls that are open, the innermost one's first, its clock, and what the kernel half keeps. Locks stand in memory. A function of the user half is active exactly where there is a visible set
pub record World : Type 0 where
  pub memory : Memory
  pub lives : List Life
  pub views : List (List Cell)
  pub clock : Clock
  pub kept : Kept

-- a piece of work in a run: it ended with a result, or it stopped the run, at a place if any
pub data Ran (A : Type 0) : Type 0 where
  Ended : (result : A) (world : World) → Ran A
  Stopped : (kind : StopKind) (at : Option At) (world : World) → Ran A

-- the state that it leaves
abbrev pub left : {A : Type 0} → Ran A → World
left (Ended x w) = w
left (Stopped kind at w) = w

-- what comes after it ended
abbrev pub after : {A B : Type 0} → Ran A → (A → World → Ran B) → Ran B
after (Ended x w) go = go x w
after (Stopped kind at w) go = Stopped kind at w

-- work that has no result
abbrev pub Work : Type 0
Work = Ran (Unit {0})

abbrev pub done : World → Work
done w = Ended tt w

-- the work that comes after other work
abbrev pub then : {B : Type 0} → Work → (World → Ran B) → Ran B
then (Ended x w) go = go w
then (Stopped kind at w) go = Stopped kind at w

-- what an access or a service gives, or the stop that it comes to at this place
abbrev pub given : {A B : Type 0} → Result A StopKind → At → World → (A → Ran B) → Ran B
given (Ok x) at w go = go x
given (Err kind) at w go = Stopped kind (Some at) w

abbrev pub noted : Happened → World → World
noted event w = record w { kept = record w.kept { events = w.kept.events ++ event ∷ [] } }

-- ---- ticks

abbrev pub counted : {A : Type 0} → (rest : ℕ) → Option At → World → (World → Ran A) → Ran A
counted zero at w go = Stopped stop.Ticks at w
counted (suc n) at w go = go (record w { clock = advanced 1 w.clock })

-- one tick: the run stops where the budget is used, else the tick is counted and the device has it. Where no code runs there is no place
abbrev pub ticked : {A : Type 0} → Option At → World → (World → Ran A) → Ran A
ticked at w go = counted w.clock.rest at w go
