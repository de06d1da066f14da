use Rattle.mdr_rich_sources.proofs.Sourced.{runs_written}
use Rattle.mdr_rich_sources.proofs.laws.runs_mean_what_is_written.Goals as goal

pub returns : goal.returns
returns c = runs_written
