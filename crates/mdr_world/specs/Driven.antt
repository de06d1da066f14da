-- protocol
-- A driver that runs: what its code does to it.
use Rattle.std.specs.Prelude.{◌≡◌, ℕ, suc, ◌+◌, ◌<◌, Bool, true, false, not, List, [], ◌∷◌, Option, Some, None, Result, Ok, Err}
use Rattle.mdr_core.specs.declared.program.Program.{Program}
use Rattle.mdr_core.specs.declared.stop.StopKind.{StopKind}
use Rattle.mdr_meaning.specs.Tree.{Tree}
use Rattle.mdr_meaning.specs.Walk.{Accesses, Born, Walked, walk, walked}
use Rattle.mdr_model.specs.declared.memory.Cell.{Cell}
use Rattle.mdr_plain.specs.Gate.{due}
use Rattle.mdr_plain.specs.Running.{all_cells}
use Rattle.mdr_plain.specs.Storage.{accesses}
use Rattle.mdr_plain.specs.World.{World, advanced}

-- its program, and the state of its run
pub record Driven : Type 0 where
  pub program : Program
  pub world : World

abbrev pub driver : Program → World → Driven
driver program w = record { program = program; world = w }

-- whether a function of the user half is active. The cells that it may touch are kept elsewhere: none is in the run's state
abbrev pub open_views : Bool → List (List Cell)
open_views true = [] ∷ []
open_views false = []

-- what is done to the state of a run is done to the driver
abbrev pub driver_if : Program → Result World StopKind → Result Driven StopKind
driver_if program (Ok w) = Ok (driver program w)
driver_if program (Err kind) = Err kind

abbrev pub driver_born : Program → Born World → Born Driven
driver_born program b = record { pointers = b.pointers; memory = driver program b.memory }

-- code that may touch these cells
abbrev pub driven_by : (World → Cell → Bool) → Accesses Driven
driven_by allowed = record {
  load = λ d p. (accesses d.program allowed).load d.world p;
  store = λ d p v. driver_if d.program ((accesses d.program allowed).store d.world p v);
  read = λ d p n. (accesses d.program allowed).read d.world p n;
  fresh = λ d v. (accesses d.program allowed).fresh d.world v;
  birth = λ d shapes. driver_born d.program ((accesses d.program allowed).birth d.world shapes);
  death = λ d ps. driver d.program ((accesses d.program allowed).death d.world ps);
}

-- each cell
abbrev pub driven_accesses : Accesses Driven
driven_accesses = driven_by all_cells

-- ---- calls

-- one more command called a function
abbrev pub counted_call : World → World
counted_call w = record w { kept = record w.kept { calls = w.kept.calls + 1 } }

-- ---- time

-- one tick passes where one is left
abbrev pub Ticks : Bool → Driven → Driven → Type 0
Ticks false old new = (old.world.clock.rest ≡ 0) × (new ≡ old)
Ticks true old new = (n : ℕ) × (old.world.clock.rest ≡ suc n) × (new ≡ driver old.program (record old.world { clock = advanced 1 old.world.clock }))

-- no interrupt is due before the next so many ticks, where ticks pass and code changes memory alone
abbrev pub NoneIsDueIn : (ticks : ℕ) → World → Type 0
NoneIsDueIn ticks w = (n : ℕ) (now : World) → n < ticks → now.kept ≡ w.kept → now.clock ≡ advanced n w.clock → due now ≡ None

-- whether a raised line is heard: a function handles interrupts, and doesn't run
abbrev pub is_heard : (handler : Option ℕ) (in_handler : Bool) → Bool
is_heard None in_handler = false
is_heard (Some f) in_handler = not in_handler

-- ---- a driver's walk is its world's

abbrev pub driver_walked : Program → Walked World → Walked Driven
driver_walked program w = walked w.reached (driver program w.memory) w.left

abbrev pub DriversWalk : Type 0
DriversWalk = (allowed : World → Cell → Bool) (n : ℕ) (t : Tree) (program : Program) (w : World) → walk (driven_by allowed) n t (driver program w) ≡ driver_walked program (walk (accesses program allowed) n t w)
