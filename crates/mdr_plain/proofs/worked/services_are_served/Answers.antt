use Rattle.mdr_plain.proofs.ServiceProofs.{services_give, services_stop}
use Rattle.mdr_plain.proofs.worked.services_are_served.Goals as goal

pub returns : goal.returns
returns c = record { stops = services_stop; gives = services_give }
