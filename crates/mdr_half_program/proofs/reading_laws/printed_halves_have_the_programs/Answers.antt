use Rattle.mdr_half_program.proofs.Again.{read_again}
use Rattle.mdr_half_program.proofs.reading_laws.printed_halves_have_the_programs.Goals as goal

pub returns : goal.returns
returns c = read_again
