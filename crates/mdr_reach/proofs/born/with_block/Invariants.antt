use Rattle.std.proofs.Common.{◌≡◌, ◌++◌, ◌-◌, length}
use Rattle.std.specs.Prelude.{filter}
use Rattle.mdr_cells.specs.Names.{AreBefore}
use Rattle.mdr_extents.specs.Extent.{is_touched}
use Rattle.mdr_model.specs.declared.memory.Cell.{Cell}
use Rattle.mdr_model.specs.Sets.{cells_from}
use Rattle.mdr_reach.proofs.born.with_block.Given as goal

abbrev pub invariant-loop-index : goal.invariant-loop-index
invariant-loop-index l =
    record {
      gains : l.set ++ filter (λ (c : Cell). is_touched l.scene.program.now l.scene.touched.now l.h.born c.index) (cells_from l.h.born.serial l.index (length l.h.cells.now - l.index))
          ≡ l.fn.set ++ filter (λ (c : Cell). is_touched l.scene.program.now l.scene.touched.now l.h.born c.index) (cells_from l.h.born.serial 0 (length l.h.cells.now));
      before : AreBefore l.set (record { serial = l.h.born.serial; index = l.index });
    }
