-- protocol
-- Cells by their names.
use Rattle.std.specs.Prelude.{◌≡◌, true, List, map}
use Rattle.mdr_cells.specs.declared.name.CellName.{CellName}
use Rattle.mdr_extents.specs.CellOrder.{IsBefore, cells}
use Rattle.mdr_model.specs.declared.memory.Cell.{Cell}
use Rattle.mdr_paths.specs.Paths.{is_in}

abbrev pub cell_of : CellName → Cell
cell_of n = record { serial = n.serial; index = n.index }

abbrev pub named : List CellName → List Cell
named names = map cell_of names

-- each cell of the set comes before this one
abbrev pub AreBefore : List Cell → Cell → Type 0
AreBefore set d = (c : Cell) → is_in cells set c ≡ true → IsBefore c d
