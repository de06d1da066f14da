use Rattle.std.proofs.Common.{◌∙◌, sym}
use Rattle.mdr_user_code.specs.Standing.{driver_in}
use Rattle.mdr_user_code.proofs.TidingLaws.{copy_shaped}
use Rattle.mdr_user_code.proofs.opening.answered.Goals as goal

pub answer_turn-requires-clause-shaped : goal.answer_turn-requires-clause-shaped
answer_turn-requires-clause-shaped c =
    copy_shaped (driver_in c.args.scene) c.args.state.now c.args.question.now c.args.answer.now c.in-Some.copy (sym c.in_ok-copy.ensures ∙ c.in-Some.is)
