-- protocol
-- In which field of a struct a cell lies.
use Rattle.std.specs.Prelude.{◌≡◌, ℕ, ◌+◌, ◌*◌, ◌<◌, List, length, Some, slice_get}
use Rattle.mdr_core.specs.declared.program.Field.{Field}
use Rattle.mdr_core.specs.declared.program.StructDef.{StructDef}
use Rattle.mdr_core.specs.Layout.{Alone, Within, repeated, leaves, leaves_below, struct_cells, fields_of, field_start}

-- the cell is cell `rest` of field number f, which is `field`
pub record IsInField (structs : List StructDef) (s cell : ℕ) (field : Field) (f rest : ℕ) : Type 0 where
  pub names : slice_get (fields_of structs s) f ≡ Some field
  pub place : cell ≡ field_start structs s f + rest
  pub inside : rest < field.count * length (leaves (leaves_below structs s) Alone field.ty)
  pub same : slice_get (struct_cells structs s) cell ≡ slice_get (repeated field.count (leaves (leaves_below structs s) (Within s f) field.ty)) rest
