use Rattle.mdr_half_program.proofs.Pieced.{halves_lead}
use Rattle.mdr_half_program.proofs.piece_laws.halves_have_the_pieces.Goals as goal

pub returns : goal.returns
returns c = halves_lead
