use Rattle.std.proofs.Common.{◌≡◌, ◌++◌, drop}
use Rattle.mdr_model.specs.Report.{arguments_shown}
use Rattle.mdr_report.proofs.value.put_arguments.Given as goal

abbrev pub invariant-loop-value : goal.invariant-loop-value
invariant-loop-value l = l.out.items ++ arguments_shown l.program (drop l.value-index l.args) ≡ l.initial.out.items ++ arguments_shown l.program l.args
