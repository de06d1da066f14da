use Rattle.mdr_far.proofs.FarLaws.{answered_ok, answered_none}
use Rattle.mdr_far.proofs.local_far.load_half.Goals as goal

pub returns-in-Ok-clause-answered : goal.returns-in-Ok-clause-answered
returns-in-Ok-clause-answered c = answered_ok c.args.user.now c.args.plan.now c.in-Ok.loaded c.put.new.place c.put.ensures c.in-Ok.ensures.load

pub returns-in_ok-answer-in-Err-clause-answered : goal.returns-in_ok-answer-in-Err-clause-answered
returns-in_ok-answer-in-Err-clause-answered c =
    answered_none c.args.user.now c.args.plan.now c.in_ok-answer-in-Err.answer c.put-in-Err.new.place c.put-in-Err.ensures
    (c.in_ok-answer-in-Err.ensures c.args.user.now c.args.plan.now c.in-Err.ensures.load)
