use Rattle.mdr_kept.proofs.Graphs.{graph_is, graph_of}
use Rattle.mdr_kept.proofs.report_laws.programs_have_graphs.Goals as goal

pub returns : goal.returns
returns c = λ program kernel_calls. (graph_of program kernel_calls, graph_is program kernel_calls)
