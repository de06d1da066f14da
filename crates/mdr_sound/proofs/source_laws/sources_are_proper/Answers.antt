use Rattle.mdr_sound.proofs.Itemising.{sources_proper}
use Rattle.mdr_sound.proofs.source_laws.sources_are_proper.Goals as goal

pub returns : goal.returns
returns c = sources_proper
