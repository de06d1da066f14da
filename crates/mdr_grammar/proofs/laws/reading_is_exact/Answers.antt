use Rattle.mdr_grammar.proofs.Exact.{tells}
use Rattle.mdr_grammar.proofs.laws.reading_is_exact.Goals as goal

pub returns : goal.returns
returns c = tells
