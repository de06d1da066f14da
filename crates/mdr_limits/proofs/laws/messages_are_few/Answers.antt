use Rattle.mdr_limits.proofs.FewMessages.{few_everywhere}
use Rattle.mdr_limits.proofs.laws.messages_are_few.Goals as goal

pub returns : goal.returns
returns c = few_everywhere
