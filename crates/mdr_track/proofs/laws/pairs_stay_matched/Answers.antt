use Rattle.mdr_track.proofs.PairLaws.{stay_matched}
use Rattle.mdr_track.proofs.laws.pairs_stay_matched.Goals as goal

pub returns : goal.returns
returns c = stay_matched
