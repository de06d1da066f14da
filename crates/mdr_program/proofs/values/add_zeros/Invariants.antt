use Rattle.std.proofs.Common.{◌≡◌, ◌++◌}
use Rattle.mdr_core.specs.Layout.{Alone, leaves, repeated, struct_cells}
use Rattle.mdr_program.specs.Values.{zeros, object_cells}
use Rattle.mdr_program.proofs.values.add_zeros.Given as goal

abbrev pub invariant-loop-left : goal.invariant-loop-left
invariant-loop-left l = l.all ++ zeros (repeated l.left (leaves (struct_cells l.structs) Alone l.o.ty)) ≡ l.fn.all ++ zeros (object_cells l.structs l.o)

abbrev pub decreases-loop-left : goal.decreases-loop-left
decreases-loop-left l = l.left
