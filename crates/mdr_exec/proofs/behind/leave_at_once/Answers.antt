use Rattle.mdr_exec.proofs.BehindLaws.{left_at_once}
use Rattle.mdr_exec.proofs.behind.leave_at_once.Goals as goal

pub returns-in-Some-last_off-clause-same : goal.returns-in-Some-last_off-clause-same
returns-in-Some-last_off-clause-same c =
    left_at_once c.args.program.now c.args.machine.now c.last_off.new.list c.in-Some-last_off.p c.in-Some.next c.requires.runs c.requires.ends (c.is_empty.ensures.0 c.if-not-is_empty.false) c.in-Some-last_off.ensures
    (c.in-Some.ensures c.last_off.new.list c.in-Some-last_off.p c.in-Some-last_off.ensures)
