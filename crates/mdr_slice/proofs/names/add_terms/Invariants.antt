use Rattle.std.proofs.Common.{◌≡◌, ◌++◌, map, drop}
use Rattle.mdr_core.specs.Folds.{term_of}
use Rattle.mdr_slice.specs.Calls.{all_term_names}
use Rattle.mdr_slice.proofs.names.add_terms.Given as goal

abbrev pub invariant-loop-e : goal.invariant-loop-e
invariant-loop-e l = l.out.items ++ all_term_names (map term_of (drop l.e-index l.es)) ≡ l.fn.out.items ++ all_term_names (map term_of (l.es))
