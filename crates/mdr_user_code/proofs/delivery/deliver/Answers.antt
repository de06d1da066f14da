use Rattle.std.proofs.Common.{◌∙◌, sym}
use Rattle.mdr_user_code.specs.Standing.{driver_in}
use Rattle.mdr_user_code.proofs.FollowLaws.{replies_goes, replies_refused}
use Rattle.mdr_user_code.proofs.TidingLaws.{tells}
use Rattle.mdr_user_code.proofs.delivery.deliver.Goals as goal

pub proceed-requires-clause-tells : goal.proceed-requires-clause-tells
proceed-requires-clause-tells c = tells (driver_in c.args.scene) c.args.state.now c.in-Goes.turn c.args.message.now (sym c.in_ok-opening.ensures ∙ c.in-Goes.is)

pub returns-in-Refuses : goal.returns-in-Refuses
returns-in-Refuses c = replies_refused (driver_in c.args.scene) c.args.state.now c.args.message.now c.refused.result c.in-Refuses.reason c.requires.opens c.refused.ensures (sym c.in_ok-opening.ensures ∙ c.in-Refuses.is)

pub returns-in_ok-reply-in-Goes : goal.returns-in_ok-reply-in-Goes
returns-in_ok-reply-in-Goes c =
    replies_goes (driver_in c.args.scene) c.args.state.now c.proceed.new.state c.args.message.now c.in-Goes.turn c.in_ok-reply-in-Goes.reply (sym c.in_ok-opening.ensures ∙ c.in-Goes.is) c.in_ok-reply-in-Goes.ensures

pub proceed-requires-clause-goes : goal.proceed-requires-clause-goes
proceed-requires-clause-goes c = sym c.in_ok-opening.ensures ∙ c.in-Goes.is
