use Rattle.mdr_type_table.proofs.Tabled.{tables_have_each_type}
use Rattle.mdr_type_table.proofs.laws.tables_have_each_type.Goals as goal

pub returns : goal.returns
returns c = tables_have_each_type
