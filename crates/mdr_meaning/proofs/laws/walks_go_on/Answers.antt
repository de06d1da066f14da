use Rattle.mdr_meaning.proofs.WalkLaws.{go_on}
use Rattle.mdr_meaning.proofs.laws.walks_go_on.Goals as goal

pub returns : goal.returns
returns g c = λ a n more t m. go_on a n more t m
