use Rattle.mdr_grammar.proofs.Exact.{no_tree}
use Rattle.mdr_grammar.proofs.laws.faults_have_no_tree.Goals as goal

pub returns : goal.returns
returns c = no_tree
