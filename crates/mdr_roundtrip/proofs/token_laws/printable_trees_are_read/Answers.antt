use Rattle.mdr_print.specs.Items.{tree_marks, printed}
use Rattle.mdr_print.specs.Spelled.{spelled}
use Rattle.mdr_print.proofs.Reading.{reads_tree}
use Rattle.mdr_roundtrip.proofs.ItemsApart.{trees_apart}
use Rattle.mdr_roundtrip.proofs.token_laws.printable_trees_are_read.Goals as goal

pub returns : goal.returns
unfolding printed spelled
returns c tree h = reads_tree (tree_marks tree) (trees_apart tree h)
