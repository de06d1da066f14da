-- The invariant of `struct_size`, and the measures.
use Rattle.std.proofs.Common.{◌≡◌, ◌+◌, ◌*◌, length, drop}
use Rattle.mdr_core.specs.Layout.{fields_of, field_leaves, leaves_below, struct_cells}
use Rattle.mdr_exec.proofs.layout.+size.Given as goal

abbrev pub invariant-struct_size-loop-field : goal.invariant-struct_size-loop-field
invariant-struct_size-loop-field l = l.total + length (field_leaves (leaves_below l.structs l.s) l.s l.field-index (drop l.field-index (fields_of l.structs l.s))) ≡ length (struct_cells l.structs l.s)

abbrev pub decreases-struct_size : goal.decreases-struct_size
decreases-struct_size l = 2 * l.s + 1

abbrev pub decreases-size_below : goal.decreases-size_below
decreases-size_below l = 2 * l.below
