-- believed
-- The visible sets of open upcalls, in a run's state.
use Rattle.std.specs.Prelude.{ℕ, nat_lt, Bool, List, [], ◌∷◌, ◌++◌, filter, Some, Result, Ok, Err}
use Rattle.mdr_core.specs.declared.place.At.{At}
use Rattle.mdr_core.specs.declared.plan.Key.{Key}
use Rattle.mdr_core.specs.declared.program.Program.{Program}
use Rattle.mdr_core.specs.declared.stop.StopKind.TheVariants as stop
use Rattle.mdr_core.specs.Layout.{chosen}
use Rattle.mdr_extents.specs.CellOrder.{cells}
use Rattle.mdr_extents.specs.Reaching.{Failing, own_cells}
use Rattle.mdr_model.specs.declared.memory.Cell.{Cell}
use Rattle.mdr_model.specs.Memory.{Memory, is_live}
use Rattle.mdr_paths.specs.Paths.{is_in}
use Rattle.mdr_plain.specs.World.{World, Ran, Stopped}

-- the cells of a set whose blocks live
abbrev pub living : Memory → List Cell → List Cell
living m set = filter (λ (c : Cell). is_live m c.serial) set

-- the innermost upcall's set, and those of the others
abbrev pub top : List (List Cell) → List Cell
top [] = []
top (set ∷ sets) = set

abbrev pub below : List (List Cell) → List (List Cell)
below [] = []
below (set ∷ sets) = sets

-- user code may touch a cell: it is in the innermost upcall's set
abbrev pub may_touch : World → Cell → Bool
may_touch w c = is_in cells (top w.views) c

-- an upcall opens with a set
abbrev pub opened : List Cell → World → World
opened set w = record w { views = set ∷ w.views }

-- the innermost upcall has another set
abbrev pub renewed : List Cell → World → World
renewed set w = record w { views = set ∷ below w.views }

-- the innermost upcall ended, and its set is gone
abbrev pub closed : World → World
closed w = record w { views = below w.views }

-- ---- blocks that are born

-- the cells with a key in the set of the blocks that have a serial from this one on
unfoldable pub new_cells : Program → (touched : List Key) → (next : ℕ) → Memory → List Cell
new_cells program touched next [] = []
new_cells program touched next (b ∷ m) = chosen (nat_lt b.born.serial next) [] (own_cells program touched b) ++ new_cells program touched next m

-- the set gains the cells of the blocks that were born when the next serial was this one, and since
abbrev pub gained : Program → (touched : List Key) → (next : ℕ) → World → World
gained program touched next w = renewed (top w.views ++ new_cells program touched next w.memory) w

-- ---- sets that are taken

-- what follows the taking of a set. Where a pointer fails, user code stops at this place
abbrev pub taken : {A : Type 0} → Result (List Cell) Failing → At → World → (List Cell → Ran A) → Ran A
taken (Ok set) at w go = go set
taken (Err failing) at w go = Stopped stop.Annotation (Some at) w
