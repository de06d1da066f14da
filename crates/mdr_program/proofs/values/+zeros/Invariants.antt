-- The invariants, and the measures: a struct has in it those of lower number alone.
use Rattle.std.proofs.Common.{◌≡◌, ◌+◌, ◌*◌, ◌++◌, drop}
use Rattle.mdr_core.specs.Layout.{Alone, fields_of, field_leaves, leaves, leaves_below, repeated, struct_cells}
use Rattle.mdr_program.specs.Values.{zeros}
use Rattle.mdr_program.proofs.values.+zeros.Given as goal

abbrev pub invariant-add_struct-loop-field : goal.invariant-add_struct-loop-field
invariant-add_struct-loop-field l = l.all ++ zeros (field_leaves (leaves_below l.structs l.s) l.s l.field-index (drop l.field-index (fields_of l.structs l.s))) ≡ l.fn.all ++ zeros (struct_cells l.structs l.s)

abbrev pub invariant-add_field-loop-left : goal.invariant-add_field-loop-left
invariant-add_field-loop-left l = l.all ++ zeros (repeated l.left (leaves (leaves_below l.structs l.s) Alone l.field.ty)) ≡ l.fn.all ++ zeros (repeated l.field.count (leaves (leaves_below l.structs l.s) Alone l.field.ty))

abbrev pub decreases-add_struct : goal.decreases-add_struct
decreases-add_struct l = 3 * l.s + 2

abbrev pub decreases-add_field : goal.decreases-add_field
decreases-add_field l = 3 * l.s + 1

abbrev pub decreases-add_below : goal.decreases-add_below
decreases-add_below l = 3 * l.below

abbrev pub decreases-add_field-loop-left : goal.decreases-add_field-loop-left
decreases-add_field-loop-left l = l.left
