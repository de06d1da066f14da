use Rattle.mdr_honest.proofs.Identifiers.{names_of_sources_are_names}
use Rattle.mdr_honest.proofs.source_laws.names_of_sources_are_names.Goals as goal

pub returns : goal.returns
returns c = names_of_sources_are_names
