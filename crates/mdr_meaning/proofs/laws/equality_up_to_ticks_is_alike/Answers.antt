use Rattle.mdr_meaning.proofs.CutLaws.{cut_alike, cut_cut}
use Rattle.mdr_meaning.proofs.laws.equality_up_to_ticks_is_alike.Goals as goal

pub returns : goal.returns
returns c = record { alike = cut_alike; once = cut_cut }
