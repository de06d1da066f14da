use Rattle.mdr_syntax.specs.Words.{reserved, is_reserved}
use Rattle.mdr_syntax.proofs.words.is_reserved.Goals as goal

pub returns : goal.returns
unfolding reserved is_reserved
returns c = c.is_one_of.ensures
