use Rattle.std.proofs.Common.{◌≡◌, ◌++◌, drop}
use Rattle.mdr_model.specs.Report.{cells_shown}
use Rattle.mdr_report.proofs.value.put_cells.Given as goal

abbrev pub invariant-loop-seen : goal.invariant-loop-seen
invariant-loop-seen l = l.out.items ++ cells_shown l.program (drop l.seen-index l.cells) ≡ l.initial.out.items ++ cells_shown l.program l.cells
