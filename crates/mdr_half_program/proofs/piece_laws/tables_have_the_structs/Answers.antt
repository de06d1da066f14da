use Rattle.mdr_half_program.proofs.Counted.{tables_count}
use Rattle.mdr_half_program.proofs.piece_laws.tables_have_the_structs.Goals as goal

pub returns : goal.returns
returns c = tables_count
