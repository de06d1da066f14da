use Rattle.mdr_plain.proofs.InterruptProofs.{cuts_idle, keeps_rules}
use Rattle.mdr_plain.proofs.worked.devices_rule.Goals as goal

pub returns : goal.returns
returns c = record { rules = keeps_rules; cut = cuts_idle }
