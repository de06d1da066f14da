use Rattle.mdr_type_table.proofs.WholeFiles.{structs_are_named}
use Rattle.mdr_type_table.proofs.name_laws.structs_have_names_of_their_own.Goals as goal

pub returns : goal.returns
returns c = structs_are_named
