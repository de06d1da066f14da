use Rattle.std.proofs.Common.{sym, ◌∙◌}
use Rattle.mdr_region.proofs.RegionLaws.{row-agrees}
use Rattle.mdr_region.proofs.rows.Rows.row.Goals as goal

pub row_at-requires : goal.row_at-requires
row_at-requires c = sym (row-agrees _ _ _ _ _ c.requires.whole.kept c.args.b) ∙ c.requires.alive
