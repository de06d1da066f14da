use Rattle.std.proofs.Common.{◌≡◌, ◌-◌}
use Rattle.mdr_cells.specs.Names.{named}
use Rattle.mdr_model.specs.Sets.{cells_from}
use Rattle.mdr_reach.specs.Marks.{counts_at, entered}
use Rattle.mdr_reach.proofs.marks.enter_in.Given as goal

abbrev pub invariant-loop-index : goal.invariant-loop-index
invariant-loop-index l =
    entered (counts_at l.scene.program.now l.scene.touched.now l.scene.blocks.now.memory) (named l.marked) (cells_from l.h.born.serial l.index (l.end - l.index))
    ≡ entered (counts_at l.scene.program.now l.scene.touched.now l.scene.blocks.now.memory) (named l.fn.marked) (cells_from l.h.born.serial l.first l.count)

abbrev pub decreases-loop-index : goal.decreases-loop-index
decreases-loop-index l = l.end - l.index
