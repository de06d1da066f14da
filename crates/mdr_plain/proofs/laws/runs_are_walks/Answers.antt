use Rattle.mdr_plain.proofs.RunLaws.{runs_are_walks}
use Rattle.mdr_plain.proofs.laws.runs_are_walks.Goals as goal

pub returns : goal.returns
returns c = runs_are_walks
