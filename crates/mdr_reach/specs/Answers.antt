-- protocol
-- What a search for the visible cells answers.
use Rattle.std.specs.Prelude.{◌≡◌, ℕ, ◌<◌, true, List, map, Result, Ok, Err}
use Rattle.mdr_cells.specs.Names.{cell_of}
use Rattle.mdr_core.specs.declared.value.Value.{Value}
use Rattle.mdr_extents.specs.CellOrder.{cells}
use Rattle.mdr_extents.specs.Reaching.{Roots}
use Rattle.mdr_extents.specs.Reaching as reaching
use Rattle.mdr_meaning.specs.Values.{wire_of}
use Rattle.mdr_model.specs.declared.memory.Cell.{Cell}
use Rattle.mdr_paths.specs.Paths.{is_in}
use Rattle.mdr_reach.specs.declared.failing.Failing.{Failing}
use Rattle.mdr_reach.specs.declared.failing.Failing.TheVariants as failing
use Rattle.mdr_reach.specs.declared.roots.Root.{Root}

abbrev pub root_of : Root → reaching.Root
root_of r = record { ann = r.ann; value = wire_of r.value }

-- what is passed, with the values of the call's parameters
abbrev pub roots_of : List Root → (passed : List Value) → Roots
roots_of roots passed = record { values = map root_of roots; passed = map wire_of passed }

-- the pointer that fails, in the definition's words
abbrev pub failing_of : Failing → reaching.Failing
failing_of (failing.Argument number) = reaching.Argument number
failing_of (failing.At name) = reaching.At (cell_of name)

-- the set, or the pointer that fails
abbrev pub answered : Result (List Cell) Failing → Result (List Cell) reaching.Failing
answered (Ok set) = Ok set
answered (Err f) = Err (failing_of f)

-- all cells are of blocks with serials below this one
abbrev pub IsOlder : ℕ → List Cell → Type 0
IsOlder next set = (c : Cell) → is_in cells set c ≡ true → c.serial < next
