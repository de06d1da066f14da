use Rattle.std.proofs.Common.{◌≡◌, ◌+◌, ◌-◌}
use Rattle.std.specs.List.{list_all}
use Rattle.mdr_extents.specs.Reaching.{counts}
use Rattle.mdr_model.specs.Sets.{cells_from, cells_of_run}
use Rattle.mdr_user_code.proofs.shown.all_count.Given as goal

abbrev pub invariant-loop-i : goal.invariant-loop-i
invariant-loop-i l = list_all (counts l.program l.touched l.copy) (cells_from l.run.serial (l.run.first + l.i) (l.run.len - l.i)) ≡ list_all (counts l.program l.touched l.copy) (cells_of_run l.run)
