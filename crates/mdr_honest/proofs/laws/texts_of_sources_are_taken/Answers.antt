use Rattle.mdr_honest.proofs.Taken.{texts_are_taken}
use Rattle.mdr_honest.proofs.laws.texts_of_sources_are_taken.Goals as goal

pub returns : goal.returns
returns c = texts_are_taken
