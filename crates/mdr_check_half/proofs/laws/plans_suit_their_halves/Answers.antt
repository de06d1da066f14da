use Rattle.mdr_check_half.proofs.Accepted.{plans_suit}
use Rattle.mdr_check_half.proofs.laws.plans_suit_their_halves.Goals as goal

-- src/laws.rt:6:1
pub returns : goal.returns
returns c = plans_suit
