use Rattle.mdr_grammar.specs.Sorts.{marks}
use Rattle.mdr_reader.proofs.sorting.mark_sort.Goals as goal

pub returns : goal.returns
unfolding marks
returns c = c.sort_in.ensures
