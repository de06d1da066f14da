use Rattle.std.proofs.Common.{◌∙◌, sym}
use Rattle.mdr_user_memory.specs.Spots.{cell_in}
use Rattle.mdr_user_memory.proofs.TwinLaws.{moves_nothing}
use Rattle.mdr_user_memory.proofs.steps.keep.Goals as goal

pub returns-in-None-clause-moves : goal.returns-in-None-clause-moves
returns-in-None-clause-moves c = moves_nothing (cell_in c.args.spot) c.args.value _ _ (sym c.user_of.ensures.exact ∙ c.in-None.is)
