use Rattle.mdr_shows.proofs.Runs.{runs_are_sets}
use Rattle.mdr_shows.proofs.laws.runs_are_sets.Goals as goal

pub returns : goal.returns
returns c = runs_are_sets
