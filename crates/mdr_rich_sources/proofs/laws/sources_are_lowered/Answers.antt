use Rattle.mdr_rich_sources.proofs.Sourced.{sources_lowered}
use Rattle.mdr_rich_sources.proofs.laws.sources_are_lowered.Goals as goal

pub returns : goal.returns
returns c = sources_lowered
