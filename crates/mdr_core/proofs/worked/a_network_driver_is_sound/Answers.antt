use Rattle.mdr_core.proofs.WorkedSound.{a_network_driver_is_sound}
use Rattle.mdr_core.proofs.worked.a_network_driver_is_sound.Goals as goal

pub returns : goal.returns
returns c = a_network_driver_is_sound
