use Rattle.mdr_core.proofs.WorkedProofs.{other_views_are_none}
use Rattle.mdr_core.proofs.worked.other_views_are_none.Goals as goal

pub returns : goal.returns
returns c = other_views_are_none
