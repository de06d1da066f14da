use Rattle.mdr_split_worked.proofs.TimedProofs.{keeps_time}
use Rattle.mdr_split_worked.proofs.worked.devices_keep_time.Goals as goal

pub returns : goal.returns
returns c = keeps_time
