use Rattle.std.proofs.Common.{◌≡◌, ◌++◌, drop}
use Rattle.mdr_core.specs.Folds.{codes_of}
use Rattle.mdr_slice.specs.Calls.{all_code_names}
use Rattle.mdr_slice.proofs.names.+codes.Given as goal

abbrev pub invariant-add_codes-loop-statement : goal.invariant-add_codes-loop-statement
invariant-add_codes-loop-statement l = l.out.items ++ all_code_names (codes_of (drop l.statement-index l.body)) ≡ l.fn.out.items ++ all_code_names (codes_of (l.body))
