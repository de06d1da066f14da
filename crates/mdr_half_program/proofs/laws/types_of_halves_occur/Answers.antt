use Rattle.mdr_half_program.proofs.Among.{types_occur_there}
use Rattle.mdr_half_program.proofs.laws.types_of_halves_occur.Goals as goal

pub returns : goal.returns
returns c = types_occur_there
