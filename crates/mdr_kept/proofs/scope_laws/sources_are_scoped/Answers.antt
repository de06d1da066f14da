use Rattle.mdr_kept.proofs.Sourced.{sources_scoped}
use Rattle.mdr_kept.proofs.scope_laws.sources_are_scoped.Goals as goal

pub returns : goal.returns
returns c = sources_scoped
