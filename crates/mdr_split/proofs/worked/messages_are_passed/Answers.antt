use Rattle.mdr_split.proofs.WorkedProofs.{bump_sends}
use Rattle.mdr_split.proofs.worked.messages_are_passed.Goals as goal

pub returns : goal.returns
returns c = record { bump = bump_sends }
