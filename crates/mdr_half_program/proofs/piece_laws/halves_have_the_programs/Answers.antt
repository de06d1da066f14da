use Rattle.mdr_half_program.proofs.Parting.{halves_are_parts}
use Rattle.mdr_half_program.proofs.piece_laws.halves_have_the_programs.Goals as goal

pub returns : goal.returns
returns c = halves_are_parts
