use Rattle.std.proofs.Common.{◌≡◌, ◌+◌, ◌-◌}
use Rattle.std.specs.List.{list_all}
use Rattle.mdr_model.specs.Sets.{cells_from, is_in}
use Rattle.mdr_user_memory.proofs.bytes.lie_in.Given as goal

abbrev pub invariant-loop-i : goal.invariant-loop-i
invariant-loop-i l = list_all (is_in l.view) (cells_from l.serial (l.first + l.i) (l.count - l.i)) ≡ list_all (is_in l.view) (cells_from l.serial l.first l.count)
