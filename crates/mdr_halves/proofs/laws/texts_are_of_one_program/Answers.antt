use Rattle.mdr_halves.proofs.Refusing.{texts_of_one}
use Rattle.mdr_halves.proofs.laws.texts_are_of_one_program.Goals as goal

pub returns : goal.returns
returns c = texts_of_one
