use Rattle.mdr_holds.proofs.Scripts.{runs_hold}
use Rattle.mdr_holds.proofs.laws.runs_hold.Goals as goal

pub returns : goal.returns
returns c = runs_hold
