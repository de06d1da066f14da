use Rattle.mdr_grammar.proofs.Exact.{one_tree}
use Rattle.mdr_grammar.proofs.laws.sources_have_one_tree.Goals as goal

pub returns : goal.returns
returns c = one_tree
