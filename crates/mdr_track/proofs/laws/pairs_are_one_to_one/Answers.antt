use Rattle.mdr_track.proofs.PairLaws.{one_to_one}
use Rattle.mdr_track.proofs.laws.pairs_are_one_to_one.Goals as goal

pub returns : goal.returns
returns c = one_to_one
