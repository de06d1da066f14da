use Rattle.mdr_slice.proofs.WorkedProofs.{network_driver_is_cut}
use Rattle.mdr_slice.proofs.worked.a_network_driver_is_cut.Goals as goal

pub returns : goal.returns
returns c = network_driver_is_cut
