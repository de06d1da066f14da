use Rattle.std.proofs.Common.{◌+◌, refl}
use Rattle.mdr_exec.specs.Holding.{flow_as, held_of}
use Rattle.mdr_exec.proofs.BeginningLaws.{jump_goes}
use Rattle.mdr_exec.proofs.begin.begin_jump.Goals as goal

pub returns : goal.returns
returns g c = λ program way same side n is.
    jump_goes program c.args.machine.now g.C.Memory.accesses c.args.memory.now c.requires.runs (held_of program c.go_past.new.machine) (c.args.machine.now.top.next + 1) refl (flow_as c.args.flow) (c.go_past.ensures program)
    side n way same is
