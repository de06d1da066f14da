use Rattle.mdr_exec.specs.Holding.{held_of}
use Rattle.mdr_exec.proofs.WentLaws.{put_back, put_outside}
use Rattle.mdr_exec.proofs.unwind.unwind.Goals as goal

pub returns-in_ok-left-in-Some : goal.returns-in_ok-left-in-Some
returns-in_ok-left-in-Some g c =
    put_back g.C.Memory.accesses c.args.program.now c.args.machine.now c.last_off.new.list c.args.memory.now c.leave_or_die.new.memory c.in_ok-left-in-Some.left (held_of c.args.program.now c.leave_or_die.new.machine)
    c.in-Some.p c.in-Some.ensures c.in_ok-left-in-Some.ensures

pub returns-in-None : goal.returns-in-None
returns-in-None g c =
    put_outside g.C.Memory.accesses c.args.program.now c.args.machine.now c.last_off.new.list c.args.memory.now c.end_or_die.new.memory c.end_or_die.result (held_of c.args.program.now c.end_or_die.new.machine)
    c.in-None.ensures.0 c.in-None.ensures.1 (c.end_or_die.ensures c.args.program.now)
