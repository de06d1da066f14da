use Rattle.mdr_holds.proofs.Kernel.{kernel_code_leaves}
use Rattle.mdr_holds.proofs.laws.kernel_code_leaves.Goals as goal

pub returns : goal.returns
returns c = kernel_code_leaves
