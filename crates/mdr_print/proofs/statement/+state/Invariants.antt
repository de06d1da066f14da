use Rattle.std.proofs.Common.{◌≡◌, ◌++◌, drop, map, List}
use Rattle.mdr_print.specs.Marks.{Mark, spell, row}
use Rattle.mdr_print.specs.Statements.{lines, at, written, written_clause}
use Rattle.mdr_print.proofs.statement.+state.Given as goal

abbrev pub invariant-put_lines-loop-s : goal.invariant-put_lines-loop-s
invariant-put_lines-loop-s l = (rest : List Mark) → l.out.items ++ spell (lines l.depth (map written (drop l.s-index l.body)) rest) ≡ l.initial.out.items ++ spell (lines l.depth (map written l.body) rest)

abbrev pub invariant-put_clauses-loop-c : goal.invariant-put_clauses-loop-c
invariant-put_clauses-loop-c l = (rest : List Mark) → l.out.items ++ spell (row (map (at l.depth) (map written_clause (drop l.c-index l.clauses))) rest) ≡ l.initial.out.items ++ spell (row (map (at l.depth) (map written_clause l.clauses)) rest)
