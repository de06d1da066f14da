use Rattle.std.proofs.Common.{sym, ◌∙◌}
use Rattle.mdr_mem.proofs.RowLaws.{born-place, handle-place, no-born}
use Rattle.mdr_region.proofs.RegionLaws.{row-held}
use Rattle.mdr_region.proofs.rows.Rows.born_at.Goals as goal

pub row-requires-clause-alive : goal.row-requires-clause-alive
row-requires-clause-alive c = handle-place c.args.self.now.live.items c.args.place c.in-Some.b (sym c.handle_at.ensures ∙ c.in-Some.is)

pub returns-in-Some : goal.returns-in-Some
returns-in-Some c = born-place _ _ c.args.self.now.live.items c.args.place c.in-Some.b _ (sym c.handle_at.ensures ∙ c.in-Some.is) (row-held _ _ _ _ _ c.requires.kept c.in-Some.b.slot c.row.result c.row.ensures)

pub returns-in-None : goal.returns-in-None
returns-in-None c = no-born _ _ c.args.self.now.live.items c.args.place (sym c.handle_at.ensures ∙ c.in-None.is)
