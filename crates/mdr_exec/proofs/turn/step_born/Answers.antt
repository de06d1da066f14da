use Rattle.mdr_exec.specs.Holding.{held_of}
use Rattle.mdr_exec.proofs.TurnLaws.{same_runs}
use Rattle.mdr_exec.proofs.turn.step_born.Goals as goal

pub returns : goal.returns
returns g c = λ program side.
    same_runs g.C.Memory.accesses side (held_of program c.args.machine.now) (held_of program c.take_object.new.machine) c.args.memory.now c.args.memory.now c.args.left
    (c.in_ok-take_object.ensures program side)
