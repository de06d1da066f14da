use Rattle.mdr_paths.proofs.Told.{adds_after}
use Rattle.mdr_paths.proofs.worklist.mark_all.Goals as goal

pub returns : goal.returns
returns c = adds_after _ _ _ c.mark_each.ensures
