use Rattle.std.proofs.Common.{◌∙◌}
use Rattle.mdr_user_memory.proofs.LoopLaws.{one_run}
use Rattle.mdr_user_memory.proofs.gathering.cells_of_run.Goals as goal

pub returns : goal.returns
returns c = c.in_ok-cells.ensures ∙ one_run c.args.run
