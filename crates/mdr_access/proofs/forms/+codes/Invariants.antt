use Rattle.std.proofs.Common.{◌≡◌, ◌++◌, map, drop}
use Rattle.mdr_core.specs.Folds.{codes_of}
use Rattle.mdr_core.specs.Typing.{slots_of}
use Rattle.mdr_access.specs.Told.{form_of}
use Rattle.mdr_access.specs.Forms.{all_code_forms}
use Rattle.mdr_access.proofs.forms.+codes.Given as goal

abbrev pub invariant-add_codes-loop-statement : goal.invariant-add_codes-loop-statement
invariant-add_codes-loop-statement l = map form_of l.out.items ++ all_code_forms l.program (slots_of l.own) (codes_of (drop l.statement-index l.body)) ≡ map form_of l.fn.out.items ++ all_code_forms l.program (slots_of l.own) (codes_of (l.body))
