use Rattle.mdr_print.specs.Items.{tree_marks, printed}
use Rattle.mdr_print.specs.Spelled.{spelled}
use Rattle.mdr_print.proofs.Reading.{reads_tree}
use Rattle.mdr_print.proofs.laws.printed_tokens_are_read.Goals as goal

pub returns : goal.returns
unfolding printed spelled
returns c tree apart = reads_tree (tree_marks tree) apart
