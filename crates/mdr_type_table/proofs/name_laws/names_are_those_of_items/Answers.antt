use Rattle.mdr_type_table.proofs.WholeFiles.{names_are_of_items}
use Rattle.mdr_type_table.proofs.name_laws.names_are_those_of_items.Goals as goal

pub returns : goal.returns
returns c = names_are_of_items
