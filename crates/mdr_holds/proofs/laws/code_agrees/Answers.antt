use Rattle.mdr_holds.proofs.Running.{code_agrees}
use Rattle.mdr_holds.proofs.laws.code_agrees.Goals as goal

pub returns : goal.returns
returns c = code_agrees
