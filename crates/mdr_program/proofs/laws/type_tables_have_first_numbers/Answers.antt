use Rattle.mdr_program.proofs.FirstNumbers.{tables_have_first_numbers}
use Rattle.mdr_program.proofs.laws.type_tables_have_first_numbers.Goals as goal

pub returns : goal.returns
returns c = tables_have_first_numbers
