use Rattle.mdr_cut.proofs.report.report_text.Goals as goal

pub graph_of-requires : goal.graph_of-requires
graph_of-requires c = c.requires.numbers
