use Rattle.std.proofs.Common.{◌≡◌, ◌+◌, ◌-◌}
use Rattle.std.specs.List.{list_any}
use Rattle.mdr_extents.specs.Extent.{is_touched}
use Rattle.mdr_model.specs.declared.memory.Cell.{Cell}
use Rattle.mdr_model.specs.Sets.{cells_from}
use Rattle.mdr_reach.proofs.extent.is_any_touched.Given as goal

abbrev pub invariant-loop-i : goal.invariant-loop-i
invariant-loop-i l =
    list_any (λ (c : Cell). is_touched l.scene.program.now l.scene.touched.now l.h.born c.index) (cells_from l.h.born.serial (l.first + l.i) (l.size - l.i))
    ≡ list_any (λ (c : Cell). is_touched l.scene.program.now l.scene.touched.now l.h.born c.index) (cells_from l.h.born.serial l.first l.size)

abbrev pub decreases-loop-i : goal.decreases-loop-i
decreases-loop-i l = l.size - l.i
