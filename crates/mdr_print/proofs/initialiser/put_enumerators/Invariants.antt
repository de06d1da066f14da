use Rattle.std.proofs.Common.{◌≡◌, ◌++◌, drop, map, List}
use Rattle.mdr_print.specs.Marks.{Mark, spell, separated, comma_list}
use Rattle.mdr_print.specs.Declarations.{enumerator}
use Rattle.mdr_print.proofs.initialiser.put_enumerators.Given as goal

abbrev pub invariant-loop-e : goal.invariant-loop-e
invariant-loop-e l = (rest : List Mark) → l.out.items ++ spell (separated l.is_first (map enumerator (drop l.e-index l.enumerators)) rest) ≡ l.initial.out.items ++ spell (comma_list (map enumerator l.enumerators) rest)
