use Rattle.mdr_honest.proofs.Meant.{meaning}
use Rattle.mdr_honest.proofs.laws.run_is_meaning.Goals as goal

pub returns : goal.returns
returns c = meaning
