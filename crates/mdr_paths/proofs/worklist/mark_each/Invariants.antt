use Rattle.std.proofs.Common.{◌≡◌, drop}
use Rattle.mdr_paths.specs.Marking.{marks_after}
use Rattle.mdr_paths.proofs.worklist.mark_each.Given as goal

abbrev pub invariant-loop-node : goal.invariant-loop-node
invariant-loop-node l = marks_after l.marks.items (drop l.node-index l.nodes) ≡ marks_after l.fn.marks.items l.nodes
