use Rattle.mdr_syntax.proofs.Splitting.{is_split}
use Rattle.mdr_syntax.proofs.laws.tokens_are_the_text.Goals as goal

pub returns : goal.returns
returns c = is_split
