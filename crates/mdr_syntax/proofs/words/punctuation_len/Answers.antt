use Rattle.mdr_syntax.specs.Words.{punctuation, punctuation_len}
use Rattle.mdr_syntax.proofs.words.punctuation_len.Goals as goal

pub returns-clause-value : goal.returns-clause-value
unfolding punctuation punctuation_len
returns-clause-value c = c.front_len.ensures.value
