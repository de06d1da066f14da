use Rattle.mdr_type_table.proofs.Among.{tables_list_what_occurs}
use Rattle.mdr_type_table.proofs.laws.tables_list_what_occurs.Goals as goal

pub returns : goal.returns
returns c = tables_list_what_occurs
