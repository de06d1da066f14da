use Rattle.mdr_holds.proofs.States.{states_hold}
use Rattle.mdr_holds.proofs.laws.states_hold.Goals as goal

pub returns : goal.returns
returns c = states_hold
