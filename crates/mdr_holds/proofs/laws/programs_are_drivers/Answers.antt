use Rattle.mdr_holds.proofs.Drivers.{programs_are_drivers}
use Rattle.mdr_holds.proofs.laws.programs_are_drivers.Goals as goal

pub returns : goal.returns
returns c = programs_are_drivers
