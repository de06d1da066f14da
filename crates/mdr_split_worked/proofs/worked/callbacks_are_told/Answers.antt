use Rattle.mdr_split_worked.proofs.CallbackProofs.{calls_back_twice}
use Rattle.mdr_split_worked.proofs.worked.callbacks_are_told.Goals as goal

pub returns : goal.returns
returns c = calls_back_twice
