use Rattle.mdr_holds.proofs.Backs.{calls_back_are_none}
use Rattle.mdr_holds.proofs.laws.calls_back_are_none.Goals as goal

pub returns : goal.returns
returns c = calls_back_are_none
