use Rattle.mdr_callees.proofs.HalfLaws.{nowhere}
use Rattle.mdr_callees.proofs.laws.the_kernel_half_crosses_nowhere.Goals as goal

pub returns : goal.returns
returns c = nowhere
