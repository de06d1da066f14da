use Rattle.std.proofs.Common.{◌∙◌, sym}
use Rattle.mdr_user_memory.proofs.StepLaws.{stale_gone}
use Rattle.mdr_user_memory.proofs.TwinLaws.{moves_stale}
use Rattle.mdr_user_memory.proofs.LivedLaws.{lives_stale}
use Rattle.mdr_user_memory.proofs.steps.bury.Goals as goal

pub returns-in-None-clause-moves : goal.returns-in-None-clause-moves
returns-in-None-clause-moves c = moves_stale c.args.serial _ _ (sym c.user_of.ensures.exact ∙ c.in-None.is)

pub returns-in-None-clause-pairs : goal.returns-in-None-clause-pairs
returns-in-None-clause-pairs c = stale_gone c.args.serial _ (sym c.user_of.ensures.exact ∙ c.in-None.is)

pub returns-in-None-clause-lived : goal.returns-in-None-clause-lived
returns-in-None-clause-lived c = lives_stale c.args.serial _ _ (sym c.user_of.ensures.exact ∙ c.in-None.is)
