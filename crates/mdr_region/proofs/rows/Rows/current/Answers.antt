use Rattle.std.proofs.Common.{◌∙◌}
use Rattle.mdr_region.proofs.SlotLaws.{current-there}
use Rattle.mdr_region.proofs.RegionLaws.{row-agrees}
use Rattle.mdr_region.proofs.rows.Rows.current.Goals as goal

pub returns : goal.returns
returns c = c.current_in.ensures ∙ current-there _ _ (row-agrees _ _ _ _ _ c.requires.kept) c.args.v
