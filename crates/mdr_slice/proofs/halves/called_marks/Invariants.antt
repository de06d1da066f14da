use Rattle.std.proofs.Common.{map}
use Rattle.std.specs.Prelude.{vec_items}
use Rattle.mdr_paths.specs.Marking.{Tells}
use Rattle.mdr_slice.specs.Marks.{CalledByUser}
use Rattle.mdr_slice.proofs.halves.called_marks.Given as goal

abbrev pub invariant-loop-caller : goal.invariant-loop-caller
invariant-loop-caller l = Tells l.count (CalledByUser l.kernel (map vec_items l.edges) l.caller) l.marks.items
