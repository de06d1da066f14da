use Rattle.mdr_parse.specs.Parsing.{left_out}
use Rattle.mdr_parse.proofs.faults.is_left_out_word.Goals as goal

pub returns : goal.returns
unfolding left_out
returns c = c.is_one_of.ensures
