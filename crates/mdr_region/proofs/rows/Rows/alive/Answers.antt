use Rattle.std.proofs.Common.{sym, ◌∙◌}
use Rattle.mdr_region.proofs.RegionLaws.{row-agrees}
use Rattle.mdr_region.proofs.rows.Rows.alive.Goals as goal

pub returns : goal.returns
returns c = c.is_alive.ensures ∙ sym (row-agrees _ _ _ _ _ c.requires.kept c.args.b)
