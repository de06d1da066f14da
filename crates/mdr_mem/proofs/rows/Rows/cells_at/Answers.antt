use Rattle.std.proofs.Common.{sym, ◌∙◌}
use Rattle.mdr_mem.proofs.RowLaws.{cells-place, handle-place, no-place}
use Rattle.mdr_mem.proofs.rows.Rows.cells_at.Goals as goal

pub held-requires : goal.held-requires
held-requires c = sym (c.requires.held c.in-Some.b) ∙ handle-place c.args.self.now.live.items c.args.place c.in-Some.b (sym c.handle_at.ensures ∙ c.in-Some.is)

pub returns-in-Some : goal.returns-in-Some
returns-in-Some c = cells-place _ _ c.args.self.now.live.items c.args.place c.in-Some.b c.held.result.now _ (sym c.handle_at.ensures ∙ c.in-Some.is) c.held.ensures c.as_slice.ensures

pub returns-in-None : goal.returns-in-None
returns-in-None c = no-place _ _ c.args.self.now.live.items c.args.place (sym c.handle_at.ensures ∙ c.in-None.is)
