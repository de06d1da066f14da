use Rattle.mdr_honest.proofs.Taken.{texts_are_loaded}
use Rattle.mdr_honest.proofs.laws.texts_of_sources_are_loaded.Goals as goal

pub returns : goal.returns
returns c = texts_are_loaded
