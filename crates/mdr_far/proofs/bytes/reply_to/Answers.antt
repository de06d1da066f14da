use Rattle.std.proofs.Common.{ap, sym, ◌∙◌}
use Rattle.mdr_model.specs.Bytes.{readings}
use Rattle.mdr_model.proofs.RefusalLaws.{shown_refusal}
use Rattle.mdr_split.specs.User.{user_reply}
use Rattle.mdr_watched.specs.Driver.{driver_of}
use Rattle.mdr_far.proofs.HalfSteps.{follows_read, honest_reply}
use Rattle.mdr_far.proofs.bytes.reply_to.Goals as goal

pub returns-clause-reply : goal.returns-clause-reply
returns-clause-reply c = λ before follows.
    honest_reply (driver_of c.args.program.now c.args.plan.now) before c.args.bytes.now c.in_ok-written.written.items c.in_ok-reply.reply
    (c.in_ok-reply.ensures.reply (readings before) follows ∙ ap (user_reply (driver_of c.args.program.now c.args.plan.now) (readings before)) c.in_ok-reading.ensures)
    c.in_ok-written.ensures.spelled c.in_ok-written.ensures.written

pub returns-clause-follows : goal.returns-clause-follows
returns-clause-follows c = λ before follows.
    follows_read (driver_of c.args.program.now c.args.plan.now) before c.args.bytes.now c.in_ok-reading.reading c.told.new.state c.in_ok-reading.ensures (c.in_ok-reply.ensures.follows (readings before) follows)

pub returns-clause-refused : goal.returns-clause-refused
returns-clause-refused c = λ reason refused. c.in_ok-reply.ensures.refused (shown_refusal c.in_ok-reply.reply reason (sym c.in_ok-written.ensures.written ∙ refused))
