use Rattle.std.proofs.Common.{length}
use Rattle.mdr_paths.specs.Marking.{TellsBelow}
use Rattle.mdr_slice.specs.Graph.{IsRoot}
use Rattle.mdr_slice.proofs.roots.root_marks.Given as goal

abbrev pub invariant-loop-func : goal.invariant-loop-func
invariant-loop-func l = TellsBelow (length l.program.funcs) l.func (IsRoot l.program) l.marks.items
