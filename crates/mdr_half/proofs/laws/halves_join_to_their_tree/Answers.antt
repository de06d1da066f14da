use Rattle.mdr_half.proofs.Pairing.{halves_join}
use Rattle.mdr_half.proofs.laws.halves_join_to_their_tree.Goals as goal

pub returns : goal.returns
returns c = halves_join
