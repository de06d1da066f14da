use Rattle.mdr_honest.proofs.Halves.{not_refused}
use Rattle.mdr_honest.proofs.laws.loaded_texts_are_not_refused.Goals as goal

pub returns : goal.returns
returns c = not_refused
