use Rattle.std.proofs.Common.{◌+◌, length, map}
use Rattle.std.specs.Prelude.{vec_items}
use Rattle.mdr_paths.specs.Marking.{IsWork, unmarked_count}
use Rattle.mdr_paths.proofs.worklist.reached.Given as goal

abbrev pub invariant-loop-node : goal.invariant-loop-node
invariant-loop-node l = IsWork (map vec_items l.edges) l.roots l.marks.items l.todo.items

abbrev pub decreases-loop-node : goal.decreases-loop-node
decreases-loop-node l = unmarked_count l.marks.items + length l.todo.items
