use Rattle.std.proofs.Common.{◌≡◌, ◌++◌, map, drop}
use Rattle.mdr_core.specs.Folds.{term_of}
use Rattle.mdr_core.specs.Typing.{slots_of}
use Rattle.mdr_access.specs.Exposed.{all_term_fields}
use Rattle.mdr_access.proofs.exposed.add_terms.Given as goal

abbrev pub invariant-loop-e : goal.invariant-loop-e
invariant-loop-e l = l.out.items ++ all_term_fields l.program (slots_of l.own) (map term_of (drop l.e-index l.es)) ≡ l.fn.out.items ++ all_term_fields l.program (slots_of l.own) (map term_of (l.es))
