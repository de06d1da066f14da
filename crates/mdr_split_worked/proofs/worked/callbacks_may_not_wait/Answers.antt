use Rattle.mdr_split_worked.proofs.CallbackProofs.{may_not_call_back}
use Rattle.mdr_split_worked.proofs.worked.callbacks_may_not_wait.Goals as goal

pub returns : goal.returns
returns c = may_not_call_back
