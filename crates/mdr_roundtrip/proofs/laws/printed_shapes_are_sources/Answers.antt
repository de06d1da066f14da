use Rattle.mdr_print.specs.Items.{tree_marks, printed}
use Rattle.mdr_print.specs.Spelled.{spelled}
use Rattle.mdr_print.proofs.Reading.{reads_tree}
use Rattle.mdr_roundtrip.proofs.ItemsApart.{trees_apart}
use Rattle.mdr_roundtrip.proofs.PlacedSources.{shape_again}
use Rattle.mdr_roundtrip.proofs.laws.printed_shapes_are_sources.Goals as goal

pub returns : goal.returns
unfolding printed spelled
returns c halves tree p s = shape_again halves tree s (reads_tree (tree_marks tree) (trees_apart tree p))
