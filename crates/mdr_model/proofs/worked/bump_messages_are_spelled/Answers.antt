use Rattle.mdr_model.proofs.WorkedProofs.{bump_spells}
use Rattle.mdr_model.proofs.worked.bump_messages_are_spelled.Goals as goal

pub returns : goal.returns
returns c = bump_spells
