use Rattle.std.proofs.Common.{◌≡◌, ◌++◌, map, drop}
use Rattle.mdr_core.specs.Folds.{term_of}
use Rattle.mdr_core.specs.Typing.{slots_of}
use Rattle.mdr_access.specs.Told.{form_of}
use Rattle.mdr_access.specs.Forms.{all_term_forms}
use Rattle.mdr_access.proofs.forms.add_terms.Given as goal

abbrev pub invariant-loop-e : goal.invariant-loop-e
invariant-loop-e l = map form_of l.out.items ++ all_term_forms l.program (slots_of l.own) (map term_of (drop l.e-index l.es)) ≡ map form_of l.fn.out.items ++ all_term_forms l.program (slots_of l.own) (map term_of (l.es))
