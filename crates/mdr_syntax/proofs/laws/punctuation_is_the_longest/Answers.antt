use Rattle.mdr_syntax.proofs.Longest.{is_longest}
use Rattle.mdr_syntax.proofs.laws.punctuation_is_the_longest.Goals as goal

pub returns : goal.returns
returns c = is_longest
