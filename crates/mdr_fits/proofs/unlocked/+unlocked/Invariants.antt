use Rattle.std.proofs.Common.{◌≡◌, ◌+◌, ◌*◌, drop}
use Rattle.mdr_core.specs.Layout.{field_leaves, fields_of, leaves_below, struct_cells}
use Rattle.mdr_fits.proofs.OpenCells.{all_open}
use Rattle.mdr_fits.proofs.unlocked.+unlocked.Given as goal

abbrev pub decreases-field_is_open : goal.decreases-field_is_open
decreases-field_is_open l = 2 * l.below

abbrev pub decreases-struct_is_open : goal.decreases-struct_is_open
decreases-struct_is_open l = 2 * l.s + 1

abbrev pub invariant-struct_is_open-loop-field : goal.invariant-struct_is_open-loop-field
invariant-struct_is_open-loop-field l = all_open (field_leaves (leaves_below l.structs l.s) l.s l.field-index (drop l.field-index (fields_of l.structs l.s))) ≡ all_open (struct_cells l.structs l.s)
