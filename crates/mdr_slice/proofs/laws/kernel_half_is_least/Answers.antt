use Rattle.mdr_slice.proofs.LawProofs.{kernel_half_is_least}
use Rattle.mdr_slice.proofs.laws.kernel_half_is_least.Goals as goal

pub returns : goal.returns
returns c = kernel_half_is_least
