use Rattle.mdr_user_code.specs.Standing.{driver_in}
use Rattle.mdr_user_code.proofs.FollowLaws.{replies_unread}
use Rattle.mdr_user_code.proofs.delivery.reply_to.Goals as goal

pub returns-in-Err : goal.returns-in-Err
returns-in-Err c = replies_unread (driver_in c.args.scene) c.args.state.now c.args.message.now _ c.refused.result c.requires.opens c.in-Err.is c.refused.ensures
