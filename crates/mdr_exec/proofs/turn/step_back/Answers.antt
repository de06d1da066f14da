use Rattle.mdr_exec.specs.Holding.{held_of, here_of}
use Rattle.mdr_exec.proofs.KeepingLaws.{steps_told}
use Rattle.mdr_exec.proofs.TurnLaws.{step_told}
use Rattle.mdr_exec.proofs.turn.step_back.Goals as goal

pub returns : goal.returns
unfolding held_of here_of
returns g c = λ side asks.
    step_told g.C.Memory.accesses side (held_of c.args.program.now c.args.machine.now) (held_of c.args.program.now c.unwind.new.machine) c.args.memory.now c.unwind.new.memory c.args.left c.event_of.result c.with_event.result c.with_event.ensures
    (steps_told g.C.Memory.accesses side (held_of c.args.program.now c.args.machine.now) (held_of c.args.program.now c.unwind.new.machine) c.args.memory.now c.unwind.new.memory _ _ c.event_of.ensures
    (c.in_ok-went.ensures side asks))
