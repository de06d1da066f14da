use Rattle.std.proofs.Common.{refl}
use Rattle.mdr_exec.specs.Halves.{side_in}
use Rattle.mdr_exec.specs.declared.frame.Front.TheVariants as front
use Rattle.mdr_exec.proofs.ReadyLaws.{not_waiting, started_below}
use Rattle.mdr_exec.proofs.TurningLaws.{steps_behind}
use Rattle.mdr_exec.proofs.turn.step.Goals as goal

pub returns-in_ok-stepped-in-Runs : goal.returns-in_ok-stepped-in-Runs
returns-in_ok-stepped-in-Runs g c =
    steps_behind g.C.Memory.accesses c.args.halves.now c.args.program.now c.args.machine.now c.run_integers.new.machine c.step_next.new.machine c.args.memory.now c.run_integers.new.memory c.step_next.new.memory c.args.left c.in_ok-rest-in-Runs.rest c.in_ok-stepped-in-Runs.stepped
    c.in_ok-rest-in-Runs.ensures.ran c.in_ok-rest-in-Runs.ensures.as_before c.in_ok-stepped-in-Runs.ensures

pub returns-in_ok-stepped-in-Unwinds : goal.returns-in_ok-stepped-in-Unwinds
returns-in_ok-stepped-in-Unwinds g c = c.in_ok-stepped-in-Unwinds.ensures (side_in c.args.machine.now.side c.args.halves.now c.args.program.now) refl

pub returns-in-Comes : goal.returns-in-Comes
returns-in-Comes g c = c.step_comes.ensures (side_in c.args.machine.now.side c.args.halves.now c.args.program.now) refl

pub returns-in_ok-stepped-in-Enters : goal.returns-in_ok-stepped-in-Enters
returns-in_ok-stepped-in-Enters g c = c.in_ok-stepped-in-Enters.ensures (side_in c.args.machine.now.side c.args.halves.now c.args.program.now) refl refl

pub returns-in_ok-stepped-in-Fills : goal.returns-in_ok-stepped-in-Fills
returns-in_ok-stepped-in-Fills g c = c.in_ok-stepped-in-Fills.ensures (side_in c.args.machine.now.side c.args.halves.now c.args.program.now)

pub returns-in_ok-stepped-in-Born : goal.returns-in_ok-stepped-in-Born
returns-in_ok-stepped-in-Born g c = c.in_ok-stepped-in-Born.ensures c.args.program.now (side_in c.args.machine.now.side c.args.halves.now c.args.program.now)

pub step_back-requires-clause-started : goal.step_back-requires-clause-started
step_back-requires-clause-started g c = started_below c.args.program.now c.args.machine.now c.requires.ready

pub unreachable-requires : goal.unreachable-requires
unreachable-requires g c = not_waiting c.args.program.now c.args.machine.now front.WaitsValue c.requires.ready c.in-WaitsValue.is refl

pub unreachable-requires-in-WaitsParams : goal.unreachable-requires-in-WaitsParams
unreachable-requires-in-WaitsParams g c = not_waiting c.args.program.now c.args.machine.now (front.WaitsParams c.in-WaitsParams.field-0) c.requires.ready c.in-WaitsParams.is refl

pub unreachable-requires-in-WaitsObject : goal.unreachable-requires-in-WaitsObject
unreachable-requires-in-WaitsObject g c = not_waiting c.args.program.now c.args.machine.now (front.WaitsObject c.in-WaitsObject.field-0) c.requires.ready c.in-WaitsObject.is refl

pub unreachable-requires-in-WaitsDeath : goal.unreachable-requires-in-WaitsDeath
unreachable-requires-in-WaitsDeath g c = not_waiting c.args.program.now c.args.machine.now (front.WaitsDeath c.in-WaitsDeath.field-0) c.requires.ready c.in-WaitsDeath.is refl
