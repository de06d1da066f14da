-- protocol
-- Cells in the order of their serials and indexes.
use Rattle.std.specs.Prelude.{Bool, true, ◌&&◌, ◌||◌, List, [], ◌∷◌, Option, Some, None, ◌==◌, nat_lt}
use Rattle.mdr_model.specs.declared.memory.Cell.{Cell}

abbrev pub is_before : Cell → Cell → Bool
is_before c d = nat_lt c.serial d.serial || (c.serial == d.serial && nat_lt c.index d.index)

-- a cell comes behind the one before it, if there is one
abbrev pub is_behind : Option Cell → Cell → Bool
is_behind None d = true
is_behind (Some c) d = is_before c d

-- each cell comes behind the one before it
unfoldable pub cells_rise : Option Cell → List Cell → Bool
cells_rise before [] = true
cells_rise before (c ∷ cs) = is_behind before c && cells_rise (Some c) cs
