use Rattle.mdr_meaning.proofs.WalkLaws.{walk_cut}
use Rattle.mdr_meaning.proofs.laws.walks_may_be_cut.Goals as goal

pub returns : goal.returns
returns g c = λ a n r t m. walk_cut a n r t m
