use Rattle.std.proofs.Common.{◌≡◌, ◌++◌, drop, map, List}
use Rattle.mdr_print.specs.Marks.{Mark, spell}
use Rattle.std.proofs.Common.{true}
use Rattle.mdr_print.specs.Statements.{head_list, written}
use Rattle.mdr_print.proofs.statement.put_head_list.Given as goal

abbrev pub invariant-loop-s : goal.invariant-loop-s
invariant-loop-s l = (rest : List Mark) → l.out.items ++ spell (head_list l.is_first (map written (drop l.s-index l.init)) rest) ≡ l.initial.out.items ++ spell (head_list true (map written l.init) rest)
