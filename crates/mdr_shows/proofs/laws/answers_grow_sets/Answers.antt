use Rattle.mdr_shows.proofs.Growing.{answers_grow_sets}
use Rattle.mdr_shows.proofs.laws.answers_grow_sets.Goals as goal

pub returns : goal.returns
returns c = answers_grow_sets
