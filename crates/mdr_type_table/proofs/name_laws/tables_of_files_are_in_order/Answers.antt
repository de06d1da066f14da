use Rattle.mdr_type_table.proofs.WholeFiles.{tables_of_files_are_in_order}
use Rattle.mdr_type_table.proofs.name_laws.tables_of_files_are_in_order.Goals as goal

pub returns : goal.returns
returns c = tables_of_files_are_in_order
