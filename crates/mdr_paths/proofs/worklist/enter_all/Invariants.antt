use Rattle.std.proofs.Common.{◌≡◌, ◌++◌, drop}
use Rattle.mdr_paths.specs.Marking.{marks_after, entered}
use Rattle.mdr_paths.proofs.worklist.enter_all.Given as goal

-- what is left to enter leads to what entering all does
abbrev pub invariant-loop-node : goal.invariant-loop-node
invariant-loop-node l = record {
  marks : marks_after l.marks.items (drop l.node-index l.nodes) ≡ marks_after l.fn.marks.items l.nodes;
  todo : l.todo.items ++ entered l.marks.items (drop l.node-index l.nodes) ≡ l.fn.todo.items ++ entered l.fn.marks.items l.nodes;
}
