use Rattle.mdr_exec.proofs.ParamLaws.{no_number, number_pushed}
use Rattle.mdr_exec.proofs.params.add_number.Goals as goal

pub returns-in_ok-push : goal.returns-in_ok-push
returns-in_ok-push c = number_pushed c.args.i c.args.param.now c.args.numbers.now c.push.new.self c.if-param.true c.in_ok-push.ensures.ok

pub returns-else-param : goal.returns-else-param
returns-else-param c = no_number c.args.i c.args.param.now c.args.numbers.now c.if-param.false
