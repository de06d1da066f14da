use Rattle.std.proofs.Common.{arith}
use Rattle.mdr_mem.proofs.SoundLaws.{cells-of}
use Rattle.mdr_region.proofs.RegionLaws.{row-held, row-low}
use Rattle.mdr_region.proofs.rows.Rows.cells.Goals as goal

pub cells-requires : goal.cells-requires
cells-requires c =
    let w = c.requires.whole in
    omega (arith, row-low _ _ _ _ _ w.kept c.args.b.slot c.row-row.result c.row-row.ensures, w.pool.cells, w.pool.places.height)

pub returns : goal.returns
returns c = λ index. rw c.cells.ensures (cells-of _ _ _ _ _ c.requires.whole.kept.memory c.args.b c.requires.alive _ (row-held _ _ _ _ _ c.requires.whole.kept c.args.b.slot c.row-row.result c.row-row.ensures) index)
