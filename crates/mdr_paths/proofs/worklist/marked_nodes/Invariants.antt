use Rattle.std.proofs.Common.{◌≡◌, ◌++◌, ◌-◌, length}
use Rattle.std.specs.List.{filter, range_with_len}
use Rattle.mdr_paths.specs.Numbers.{marked, marks_of}
use Rattle.mdr_paths.proofs.worklist.marked_nodes.Given as goal

-- what is left to add leads to all marked nodes
abbrev pub invariant-loop-at : goal.invariant-loop-at
invariant-loop-at l = l.nodes.items ++ filter (marked l.marks) (range_with_len l.at (length l.marks - l.at)) ≡ marks_of l.marks
