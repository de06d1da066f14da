use Rattle.mdr_holds.proofs.User.{user_code_leaves}
use Rattle.mdr_holds.proofs.laws.user_code_leaves.Goals as goal

pub returns : goal.returns
returns c = user_code_leaves
