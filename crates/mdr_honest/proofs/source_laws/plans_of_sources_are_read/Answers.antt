use Rattle.mdr_honest.proofs.SourcePlans.{plans_of_sources_are_read}
use Rattle.mdr_honest.proofs.source_laws.plans_of_sources_are_read.Goals as goal

pub returns : goal.returns
returns c = plans_of_sources_are_read
