use Rattle.std.proofs.Common.{◌≡◌, ◌≤◌, drop, length}
use Rattle.mdr_core.specs.TypeText.{is_before}
use Rattle.mdr_check.proofs.table.is_before.Given as goal

abbrev pub invariant-loop-i : goal.invariant-loop-i
invariant-loop-i l = (l.i ≤ length l.xs) × (is_before (drop l.i l.xs) (drop l.i l.ys) ≡ is_before l.xs l.ys)
