use Rattle.mdr_mem.proofs.SoundLaws.{born-value}
use Rattle.mdr_region.proofs.RegionLaws.{row-held}
use Rattle.mdr_region.proofs.rows.Rows.born.Goals as goal

pub returns : goal.returns
returns c = born-value _ _ _ _ _ c.requires.whole.kept.memory c.args.b c.requires.alive _ (row-held _ _ _ _ _ c.requires.whole.kept c.args.b.slot c.row.result c.row.ensures)
