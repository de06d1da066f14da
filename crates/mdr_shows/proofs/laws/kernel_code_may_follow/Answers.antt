use Rattle.mdr_shows.proofs.KernelCode.{kernel_code_may_follow}
use Rattle.mdr_shows.proofs.laws.kernel_code_may_follow.Goals as goal

pub returns : goal.returns
returns c = kernel_code_may_follow
