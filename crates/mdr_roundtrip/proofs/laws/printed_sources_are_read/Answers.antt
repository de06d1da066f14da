use Rattle.mdr_print.specs.Items.{tree_marks, printed}
use Rattle.mdr_print.specs.Spelled.{spelled}
use Rattle.mdr_print.proofs.Reading.{reads_tree}
use Rattle.mdr_roundtrip.proofs.ItemsApart.{trees_apart}
use Rattle.mdr_roundtrip.proofs.Lexemes.{tokens_are_lexed}
use Rattle.mdr_roundtrip.proofs.Printing.{trees_are_printable}
use Rattle.mdr_roundtrip.proofs.laws.printed_sources_are_read.Goals as goal

pub returns : goal.returns
unfolding printed spelled
returns c bytes tokens halves tree e r = reads_tree (tree_marks tree) (trees_apart tree (trees_are_printable halves tokens tree (tokens_are_lexed bytes tokens e) r))
