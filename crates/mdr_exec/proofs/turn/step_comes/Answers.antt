use Rattle.mdr_exec.specs.Holding.{held_of}
use Rattle.mdr_exec.proofs.TurnLaws.{step_told}
use Rattle.mdr_exec.proofs.turn.step_comes.Goals as goal

pub returns : goal.returns
returns g c = λ side known.
    step_told g.C.Memory.accesses side (held_of c.args.program.now c.args.machine.now) (held_of c.args.program.now c.keep.new.machine) c.args.memory.now c.keep.new.memory c.args.left c.keep.result c.with_event.result c.with_event.ensures
    (c.keep.ensures side known)
