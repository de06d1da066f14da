use Rattle.mdr_holds.proofs.Running.{code_stays}
use Rattle.mdr_holds.proofs.laws.code_stays.Goals as goal

pub returns : goal.returns
returns c = code_stays
