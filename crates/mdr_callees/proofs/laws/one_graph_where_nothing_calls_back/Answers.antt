use Rattle.mdr_callees.proofs.BackLaws.{one_graph}
use Rattle.mdr_callees.proofs.laws.one_graph_where_nothing_calls_back.Goals as goal

pub returns : goal.returns
returns c = one_graph
