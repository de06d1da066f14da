use Rattle.std.proofs.Common.{sym, ◌∙◌}
use Rattle.mdr_mem.proofs.RowLaws.{born-place, handle-place, no-born}
use Rattle.mdr_mem.proofs.rows.Rows.born_at.Goals as goal

pub held-requires : goal.held-requires
held-requires c = sym (c.requires.held c.in-Some.b) ∙ handle-place c.args.self.now.live.items c.args.place c.in-Some.b (sym c.handle_at.ensures ∙ c.in-Some.is)

pub returns-in-Some : goal.returns-in-Some
returns-in-Some c = born-place _ _ c.args.self.now.live.items c.args.place c.in-Some.b c.held.result.now (sym c.handle_at.ensures ∙ c.in-Some.is) c.held.ensures

pub returns-in-None : goal.returns-in-None
returns-in-None c = no-born _ _ c.args.self.now.live.items c.args.place (sym c.handle_at.ensures ∙ c.in-None.is)
