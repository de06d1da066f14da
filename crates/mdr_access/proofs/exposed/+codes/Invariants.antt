use Rattle.std.proofs.Common.{◌≡◌, ◌++◌, drop}
use Rattle.mdr_core.specs.Folds.{codes_of}
use Rattle.mdr_core.specs.Typing.{slots_of}
use Rattle.mdr_access.specs.Exposed.{all_code_fields}
use Rattle.mdr_access.proofs.exposed.+codes.Given as goal

abbrev pub invariant-add_codes-loop-statement : goal.invariant-add_codes-loop-statement
invariant-add_codes-loop-statement l = l.out.items ++ all_code_fields l.program (slots_of l.own) (codes_of (drop l.statement-index l.body)) ≡ l.fn.out.items ++ all_code_fields l.program (slots_of l.own) (codes_of (l.body))
