use Rattle.mdr_sound.proofs.Itemising.{bytes_proper}
use Rattle.mdr_sound.proofs.source_laws.read_sources_are_proper.Goals as goal

pub returns : goal.returns
returns c = bytes_proper
