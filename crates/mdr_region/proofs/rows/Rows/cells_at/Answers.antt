use Rattle.std.proofs.Common.{sym, ◌∙◌, arith}
use Rattle.mdr_mem.proofs.RowLaws.{cells-place, handle-place, no-place}
use Rattle.mdr_region.proofs.RegionLaws.{row-held, row-low}
use Rattle.mdr_region.proofs.rows.Rows.cells_at.Goals as goal

pub row-row-requires-clause-alive : goal.row-row-requires-clause-alive
row-row-requires-clause-alive c = handle-place c.args.self.now.live.items c.args.place c.in-Some.b (sym c.handle_at.ensures ∙ c.in-Some.is)

pub cells-requires : goal.cells-requires
cells-requires c =
    let w = c.requires in
    omega (arith, row-low _ _ _ _ _ w.kept c.in-Some.b.slot c.row-row.result c.row-row.ensures, w.pool.cells, w.pool.places.height)

pub returns-in-Some : goal.returns-in-Some
returns-in-Some c = cells-place _ _ c.args.self.now.live.items c.args.place c.in-Some.b _ _ (sym c.handle_at.ensures ∙ c.in-Some.is) (row-held _ _ _ _ _ c.requires.kept c.in-Some.b.slot c.row-row.result c.row-row.ensures) c.cells.ensures

pub returns-in-None : goal.returns-in-None
returns-in-None c = no-place _ _ c.args.self.now.live.items c.args.place (sym c.handle_at.ensures ∙ c.in-None.is)
