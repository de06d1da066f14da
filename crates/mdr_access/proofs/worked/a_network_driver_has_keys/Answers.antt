use Rattle.mdr_access.proofs.WorkedProofs.{network_driver_has_keys}
use Rattle.mdr_access.proofs.worked.a_network_driver_has_keys.Goals as goal

pub returns : goal.returns
returns c = network_driver_has_keys
