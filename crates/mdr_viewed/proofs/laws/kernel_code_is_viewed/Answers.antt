use Rattle.mdr_viewed.proofs.KernelCode.{kernel_code_is_viewed}
use Rattle.mdr_viewed.proofs.laws.kernel_code_is_viewed.Goals as goal

pub returns : goal.returns
returns c = kernel_code_is_viewed
