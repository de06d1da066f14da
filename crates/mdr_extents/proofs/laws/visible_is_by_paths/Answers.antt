use Rattle.mdr_extents.proofs.VisibleLaws.{visible_is_by_paths}
use Rattle.mdr_extents.proofs.laws.visible_is_by_paths.Goals as goal

pub returns : goal.returns
returns c = visible_is_by_paths
