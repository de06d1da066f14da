use Rattle.mdr_half_program.proofs.Tabled.{plans_have}
use Rattle.mdr_half_program.proofs.laws.plans_have_the_types.Goals as goal

pub returns : goal.returns
returns c = plans_have
