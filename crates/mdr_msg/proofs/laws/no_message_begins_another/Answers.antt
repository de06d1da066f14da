use Rattle.mdr_msg.proofs.Prefixes.{stands_alone}
use Rattle.mdr_msg.proofs.laws.no_message_begins_another.Goals as goal

pub returns : goal.returns
returns c = λ bytes are read. stands_alone bytes are read
