use Rattle.mdr_program.proofs.Happening.{types_occur}
use Rattle.mdr_program.proofs.laws.types_of_tables_occur.Goals as goal

pub returns : goal.returns
returns c = types_occur
