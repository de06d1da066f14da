use Rattle.mdr_half_program.proofs.Defined.{defined_have}
use Rattle.mdr_half_program.proofs.laws.defined_functions_have_bodies.Goals as goal

pub returns : goal.returns
returns c = defined_have
