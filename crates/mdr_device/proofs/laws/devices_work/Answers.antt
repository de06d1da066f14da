use Rattle.mdr_device.proofs.WorkedLaws as worked
use Rattle.mdr_device.proofs.laws.devices_work.Goals as goal

pub returns : goal.returns
returns c = worked.devices_work
