use Rattle.std.proofs.Common.{ap, ◌∙◌}
use Rattle.mdr_grammar.specs.Sorts.{words, sort_in}
use Rattle.mdr_reader.proofs.sorting.word_sort.Goals as goal

pub returns : goal.returns
unfolding words
returns c = c.sort_in.ensures ∙ ap (λ s. sort_in words c.args.text.now s) c.unlisted.ensures
