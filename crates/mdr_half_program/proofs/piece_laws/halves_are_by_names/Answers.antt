use Rattle.mdr_half_program.proofs.Halved.{halves_by_names}
use Rattle.mdr_half_program.proofs.piece_laws.halves_are_by_names.Goals as goal

pub returns : goal.returns
returns c = halves_by_names
