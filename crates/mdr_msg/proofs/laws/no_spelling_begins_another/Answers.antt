use Rattle.mdr_msg.proofs.Messages.{no_prefix}
use Rattle.mdr_msg.proofs.laws.no_spelling_begins_another.Goals as goal

pub returns : goal.returns
returns c = λ m n rest p q e. no_prefix m n rest p q e
