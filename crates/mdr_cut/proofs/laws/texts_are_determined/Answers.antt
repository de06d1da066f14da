use Rattle.mdr_cut.proofs.Determined.{texts_are_determined}
use Rattle.mdr_cut.proofs.laws.texts_are_determined.Goals as goal

pub returns : goal.returns
returns c = texts_are_determined
