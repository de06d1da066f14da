use Rattle.std.proofs.Common.{◌≡◌, ◌++◌, drop, map, List}
use Rattle.mdr_print.specs.Marks.{Mark, spell, row}
use Rattle.mdr_print.specs.Items.{field}
use Rattle.mdr_print.proofs.item.put_fields.Given as goal

abbrev pub invariant-loop-d : goal.invariant-loop-d
invariant-loop-d l = (rest : List Mark) → l.out.items ++ spell (row (map field (drop l.d-index l.fields)) rest) ≡ l.initial.out.items ++ spell (row (map field l.fields) rest)
