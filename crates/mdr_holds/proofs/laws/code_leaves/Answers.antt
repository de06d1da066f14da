use Rattle.mdr_holds.proofs.Running.{code_leaves}
use Rattle.mdr_holds.proofs.laws.code_leaves.Goals as goal

pub returns : goal.returns
returns c = code_leaves
