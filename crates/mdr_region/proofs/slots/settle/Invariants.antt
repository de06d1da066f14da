use Rattle.std.proofs.Common.{◌≡◌, ◌+◌, length, drop}
use Rattle.std.specs.Prelude.{vec_capacity}
use Rattle.mdr_region.specs.Slots.{current_at, settled}
use Rattle.mdr_region.proofs.slots.settle.Given as goal

abbrev pub invariant-loop-i : goal.invariant-loop-i
invariant-loop-i l =
    (settled (current_at l.rows.slots) (l.start + l.i) (drop l.i l.first) l.values.items ≡ settled (current_at l.rows.slots) l.start l.first l.fn.values.items)
    × ((length l.values.items ≡ length l.fn.values.items) × (vec_capacity l.values ≡ vec_capacity l.fn.values))
