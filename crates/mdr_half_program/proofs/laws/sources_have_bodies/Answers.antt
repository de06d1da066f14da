use Rattle.mdr_half_program.proofs.Sourced.{sources_have}
use Rattle.mdr_half_program.proofs.laws.sources_have_bodies.Goals as goal

pub returns : goal.returns
returns c = sources_have
