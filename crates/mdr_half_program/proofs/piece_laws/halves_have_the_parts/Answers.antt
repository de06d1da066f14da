use Rattle.mdr_half_program.proofs.Sided.{sides_both}
use Rattle.mdr_half_program.proofs.piece_laws.halves_have_the_parts.Goals as goal

pub returns : goal.returns
returns c = sides_both
