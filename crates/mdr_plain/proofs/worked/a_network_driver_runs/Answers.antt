use Rattle.mdr_plain.proofs.NicProofs.{drives_card}
use Rattle.mdr_plain.proofs.worked.a_network_driver_runs.Goals as goal

pub returns : goal.returns
returns c = drives_card
