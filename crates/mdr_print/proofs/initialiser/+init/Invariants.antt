use Rattle.std.proofs.Common.{◌≡◌, ◌++◌, drop, map, List}
use Rattle.mdr_print.specs.Marks.{Mark, spell, separated, comma_list}
use Rattle.mdr_print.specs.Declarations.{elem}
use Rattle.mdr_print.proofs.initialiser.+init.Given as goal

abbrev pub invariant-put_elems-loop-e : goal.invariant-put_elems-loop-e
invariant-put_elems-loop-e l = (rest : List Mark) → l.out.items ++ spell (separated l.is_first (map elem (drop l.e-index l.elems)) rest) ≡ l.initial.out.items ++ spell (comma_list (map elem l.elems) rest)
