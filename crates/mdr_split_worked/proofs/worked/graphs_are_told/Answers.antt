use Rattle.mdr_split_worked.proofs.GraphProofs.{tells_graph}
use Rattle.mdr_split_worked.proofs.worked.graphs_are_told.Goals as goal

pub returns : goal.returns
returns c = tells_graph
