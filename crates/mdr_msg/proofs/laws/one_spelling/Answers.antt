use Rattle.mdr_msg.proofs.Messages.{one_message}
use Rattle.mdr_msg.proofs.laws.one_spelling.Goals as goal

pub returns : goal.returns
returns c = λ m n p q e. one_message m n p q e
