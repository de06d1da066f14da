use Rattle.mdr_honest.proofs.Halves.{half_is}
use Rattle.mdr_honest.proofs.laws.loaded_halves_are_sound.Goals as goal

pub returns : goal.returns
returns c = half_is
