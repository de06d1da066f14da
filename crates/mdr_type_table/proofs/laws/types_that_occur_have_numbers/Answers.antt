use Rattle.mdr_type_table.proofs.Tabled.{types_that_occur_have_numbers}
use Rattle.mdr_type_table.proofs.laws.types_that_occur_have_numbers.Goals as goal

pub returns : goal.returns
returns c = types_that_occur_have_numbers
