use Rattle.mdr_honest.proofs.Halves.{loads_once}
use Rattle.mdr_honest.proofs.laws.texts_load_one_thing.Goals as goal

pub returns : goal.returns
returns c = loads_once
