use Rattle.mdr_halves.proofs.Refusing.{refused_are_none}
use Rattle.mdr_halves.proofs.laws.refused_texts_are_of_no_source.Goals as goal

pub returns : goal.returns
returns c = refused_are_none
