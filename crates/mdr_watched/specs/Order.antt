-- believed
-- What holds of a run's state at any time: serials rise, and visible cells are live.
use Rattle.std.specs.Prelude.{◌≡◌, ℕ, true, List, [], ◌∷◌}
use Rattle.mdr_core.specs.declared.place.At.{At}
use Rattle.mdr_extents.specs.CellOrder.{cells}
use Rattle.mdr_meaning.specs.declared.wire.Wire.{Wire}
use Rattle.mdr_meaning.specs.Numbers.{Numbered}
use Rattle.mdr_meaning.specs.Tree.{Asked}
use Rattle.mdr_model.specs.declared.memory.Cell.{Cell}
use Rattle.mdr_model.specs.Agreement.{IsBelow, SerialsRise}
use Rattle.mdr_model.specs.Memory.{Memory, is_live}
use Rattle.mdr_paths.specs.Paths.{is_in}
use Rattle.mdr_plain.specs.Running.{call, interrupts}
use Rattle.mdr_plain.specs.Scripts.{first_world}
use Rattle.mdr_plain.specs.Storage.{next_serial}
use Rattle.mdr_plain.specs.World.{World, left}
use Rattle.mdr_bound.specs.declared.bound.Bound.{Bound}
use Rattle.mdr_watched.specs.Driver.{Driver}
use Rattle.mdr_watched.specs.Watched.{calls_back, downcall, held, kernel_of, kernel_with, serves, upcall, watched_of}

abbrev pub AreLive : Memory → List Cell → Type 0
AreLive m set = (c : Cell) → is_in cells set c ≡ true → is_live m c.serial ≡ true

abbrev pub AllAreLive : Memory → List (List Cell) → Type 0
AllAreLive m [] = Unit {0}
AllAreLive m (set ∷ sets) = AreLive m set × AllAreLive m sets

pub record IsInOrder (w : World) : Type 0 where
  pub rises : SerialsRise w.memory
  pub below : IsBelow (next_serial w) w.memory
  pub live : AllAreLive w.memory w.views

-- it holds when a run begins, and all that is done keeps it. So each set that is taken is that of the paths, and it never has a cell of a dead block
pub record OrderIsKept : Type 0 where
  pub first : (known : Numbered) (script : Bound) (budget : ℕ) → IsInOrder (first_world known script budget)
  -- code of the kernel half that may not wait, as handlers may not
  pub handles : (d : Driver) (f : ℕ) (args : List Wire) (depth : ℕ) (w : World) → IsInOrder w → IsInOrder (left (call (kernel_of d) (interrupts (kernel_of d)) f args depth w))
  -- with any room for calls back
  pub called : (d : Driver) (room f : ℕ) (args : List Wire) (depth : ℕ) (w : World) → IsInOrder w → IsInOrder (left (call (kernel_with d (calls_back d (held d) room)) (interrupts (kernel_of d)) f args depth w))
  pub crossed : (d : Driver) (t room : ℕ) (at : At) (f : ℕ) (args : List Wire) (depth : ℕ) (w : World) → IsInOrder w → IsInOrder (left (downcall d (held d) t (calls_back d (held d) room) at f args depth w))
  pub served : (d : Driver) (t : ℕ) (asked : Asked) (w : World) → IsInOrder w → IsInOrder (left (serves d (held d) t asked w))
  pub entered : (d : Driver) (room f : ℕ) (args : List Wire) (depth : ℕ) (w : World) → IsInOrder w → IsInOrder (left (upcall d (held d) (calls_back d (held d) room) f args depth w))
  pub back : (d : Driver) (room : ℕ) (at : At) (f : ℕ) (args : List Wire) (depth : ℕ) (w : World) → IsInOrder w → IsInOrder (left (calls_back d (held d) room at f args depth w))
  pub runs : (d : Driver) (script : Bound) (budget : ℕ) → IsInOrder (watched_of d script budget).world
