use Rattle.mdr_type_table.proofs.FuncNames.{functions_are_named}
use Rattle.mdr_type_table.proofs.name_laws.functions_have_names_of_their_own.Goals as goal

pub returns : goal.returns
returns c = functions_are_named
