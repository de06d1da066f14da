use Rattle.std.proofs.Common.{◌≡◌, ◌++◌, drop}
use Rattle.mdr_plain.specs.Report.{values_shown}
use Rattle.mdr_report.proofs.whole_event.put_values.Given as goal

abbrev pub invariant-loop-value : goal.invariant-loop-value
invariant-loop-value l = l.out.items ++ values_shown l.program (drop l.value-index l.values) ≡ l.initial.out.items ++ values_shown l.program l.values
