use Rattle.mdr_cells.proofs.SetLaws.{tried_rises}
use Rattle.mdr_cells.proofs.set.push_last.Goals as goal

pub returns-clause-rises : goal.returns-clause-rises
returns-clause-rises c = tried_rises _ _ _ _ c.push.ensures.items c.requires.rises c.requires.before
