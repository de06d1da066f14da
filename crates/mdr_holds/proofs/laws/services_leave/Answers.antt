use Rattle.mdr_holds.proofs.Services.{services_leave}
use Rattle.mdr_holds.proofs.laws.services_leave.Goals as goal

pub returns : goal.returns
returns c = services_leave
