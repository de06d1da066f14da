use Rattle.mdr_core.specs.Folds.{call_of}
use Rattle.mdr_events.specs.Values.{wires_of}
use Rattle.mdr_exec.specs.Holding.{held_of}
use Rattle.mdr_exec.specs.Halves.{side_in}
use Rattle.mdr_exec.proofs.DepthLaws.{call_shallow}
use Rattle.mdr_exec.proofs.MakingLaws.{call_goes, call_stops}
use Rattle.mdr_exec.proofs.call.begin_call.Goals as goal

pub returns-in_ok-event-in-Ok : goal.returns-in_ok-event-in-Ok
returns-in_ok-event-in-Ok g c =
    call_goes c.args.program.now c.args.machine.now g.C.Memory.accesses c.args.memory.now (side_in c.args.machine.now.side c.args.halves.now c.args.program.now) c.requires.runs (call_of c.args.form.now) c.args.number c.in_ok-calling.calling c.in_ok-calling.ensures
    c.in-Ok.calling c.in_ok-event-in-Ok.event (held_of c.args.program.now c.make_call.new.machine) c.in-Ok.is c.in_ok-event-in-Ok.ensures.comes c.in_ok-event-in-Ok.ensures.holds

pub returns-in-Err : goal.returns-in-Err
returns-in-Err g c =
    call_stops c.args.program.now c.args.machine.now g.C.Memory.accesses c.args.memory.now (side_in c.args.machine.now.side c.args.halves.now c.args.program.now) c.requires.runs (call_of c.args.form.now) c.args.number c.in_ok-calling.calling c.in_ok-calling.ensures
    c.in-Err.stop (held_of c.args.program.now c.args.machine.now) c.in-Err.is

pub make_call-requires-clause-shallow : goal.make_call-requires-clause-shallow
make_call-requires-clause-shallow g c =
    call_shallow g.C.Memory.accesses (side_in c.args.machine.now.side c.args.halves.now c.args.program.now) c.args.program.now c.args.machine.now c.args.memory.now (record { func = c.args.machine.now.top.func; stmt = c.args.number }) (call_of c.args.form.now)
    (wires_of c.args.machine.now.top.slots) (call_of c.args.form.now).callee c.in_ok-calling.calling c.in-Ok.calling c.in_ok-calling.ensures c.in-Ok.is
