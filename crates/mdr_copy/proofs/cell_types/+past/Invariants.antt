use Rattle.std.proofs.Common.{◌+◌, ◌-◌, ◌*◌, drop}
use Rattle.mdr_core.specs.Layout.{repeated, leaves_below, field_leaves, struct_cells, fields_of}
use Rattle.mdr_copy.specs.CellTypes.{types_of}
use Rattle.mdr_copy.proofs.Passing.{Walked}
use Rattle.mdr_copy.proofs.cell_types.+past.Given as goal

abbrev pub decreases-past_field : goal.decreases-past_field
decreases-past_field l = 3 * l.below + 1

abbrev pub decreases-past_struct : goal.decreases-past_struct
decreases-past_struct l = 3 * l.s + 2

abbrev pub decreases-past_structs : goal.decreases-past_structs
decreases-past_structs l = 3 * l.s + 3

abbrev pub invariant-past_struct-loop-field : goal.invariant-past_struct-loop-field
invariant-past_struct-loop-field l =
    Walked (types_of (struct_cells l.structs l.s)) (types_of (field_leaves (leaves_below l.structs l.s) l.s l.field-index (drop l.field-index (fields_of l.structs l.s)))) l.left l.rest

abbrev pub invariant-past_structs-loop : goal.invariant-past_structs-loop
invariant-past_structs-loop l = Walked (types_of (repeated l.count (struct_cells l.structs l.s))) (types_of (repeated (l.count - l.counter) (struct_cells l.structs l.s))) l.left l.rest
