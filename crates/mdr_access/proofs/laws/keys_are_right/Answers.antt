use Rattle.mdr_access.proofs.KeyLaws.{keys_are_right}
use Rattle.mdr_access.proofs.laws.keys_are_right.Goals as goal

pub returns : goal.returns
returns c = keys_are_right
