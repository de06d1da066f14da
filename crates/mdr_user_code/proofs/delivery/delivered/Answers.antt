use Rattle.mdr_watched.specs.Driver.{driver_of}
use Rattle.mdr_user_code.proofs.FollowLaws.{follows_on, reply_is}
use Rattle.mdr_user_code.proofs.delivery.delivered.Goals as goal

pub returns-clause-reply : goal.returns-clause-reply
returns-clause-reply c = λ before f. reply_is (driver_of c.args.program.now c.args.plan.now) before c.args.state.now c.reply_to.new.state c.args.message.now c.in_ok-reply.reply f c.in_ok-reply.ensures

pub returns-clause-follows : goal.returns-clause-follows
returns-clause-follows c = λ before f. follows_on (driver_of c.args.program.now c.args.plan.now) before c.args.state.now c.reply_to.new.state c.args.message.now c.in_ok-reply.reply f c.in_ok-reply.ensures

pub returns-clause-refused : goal.returns-clause-refused
returns-clause-refused c = c.in_ok-reply.ensures.refused
