use Rattle.mdr_callees.proofs.CalleeLaws.{code_keeps}
use Rattle.mdr_callees.proofs.laws.code_keeps_to_the_call_graph.Goals as goal

pub returns : goal.returns
returns c = code_keeps
