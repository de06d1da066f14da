use Rattle.mdr_split_worked.proofs.CallbackProofs.{callback_spells}
use Rattle.mdr_split_worked.proofs.worked.callbacks_are_spelled.Goals as goal

pub returns : goal.returns
returns c = callback_spells
