use Rattle.std.proofs.Common.{subst}
use Rattle.mdr_region.specs.Layout.{laid}
use Rattle.mdr_region.specs.Blocks.{IsBlock}
use Rattle.mdr_region.proofs.RegionLaws.{row-lies, row-serial}
use Rattle.mdr_region.proofs.rows.Rows.place.Goals as goal

pub returns : goal.returns
returns c =
    let k = c.requires.whole.kept in
    subst (λ n. IsBlock (laid c.args.self.now.pool.places.lives).marks n c.row-row.result.start c.row-row.result.cells)
    (row-serial _ _ _ _ _ k c.args.b c.row-row.result c.requires.alive c.row-row.ensures)
    (row-lies _ _ _ _ _ k c.args.b.slot c.row-row.result c.row-row.ensures)
