use Rattle.std.proofs.Common.{◌≡◌, ◌++◌, drop, map, List}
use Rattle.mdr_print.specs.Marks.{Mark, spell, row}
use Rattle.mdr_print.specs.Statements.{label}
use Rattle.mdr_print.proofs.statement.put_labels.Given as goal

abbrev pub invariant-loop-l : goal.invariant-loop-l
invariant-loop-l l = (rest : List Mark) → l.out.items ++ spell (row (map (label l.depth) (drop l.l-index l.labels)) rest) ≡ l.initial.out.items ++ spell (row (map (label l.depth) l.labels) rest)
