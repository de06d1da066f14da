use Rattle.mdr_rich_sources.proofs.Sourced.{sources_written}
use Rattle.mdr_rich_sources.proofs.laws.sources_mean_what_is_written.Goals as goal

pub returns : goal.returns
returns c = sources_written
