use Rattle.mdr_honest.proofs.SourcePlans.{programs_of_sources_are_plannable}
use Rattle.mdr_honest.proofs.source_laws.programs_of_sources_are_plannable.Goals as goal

pub returns : goal.returns
returns c = programs_of_sources_are_plannable
