use Rattle.mdr_exec.proofs.ClosingLaws.{called_back, start_ended}
use Rattle.mdr_exec.proofs.close.end_function.Goals as goal

pub returns-in-Call : goal.returns-in-Call
returns-in-Call c =
    called_back c.args.machine.now c.args.flow c.in-Some.field-0 c.last_off.new.list c.returned.result c.requires.unwinds c.requires.outside c.requires.none c.in-Some.ensures c.in-Call.is
    c.returned.ensures

pub returns-in-Started : goal.returns-in-Started
returns-in-Started c =
    start_ended c.args.machine.now c.args.flow c.in-Some.field-0 c.last_off.new.list c.returned-in-Started.result c.in-Started.front c.requires.unwinds c.requires.outside c.requires.none c.in-Some.ensures
    c.in-Started.is c.returned-in-Started.ensures
