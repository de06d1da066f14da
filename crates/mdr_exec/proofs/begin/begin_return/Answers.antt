use Rattle.std.proofs.Common.{◌+◌, refl}
use Rattle.mdr_exec.specs.Holding.{held_of}
use Rattle.mdr_exec.proofs.BeginningLaws.{return_ends}
use Rattle.mdr_exec.proofs.begin.begin_return.Goals as goal

pub returns : goal.returns
returns g c = λ program side n is.
    return_ends program c.args.machine.now g.C.Memory.accesses c.args.memory.now c.requires.runs (held_of program c.go_past.new.machine) (c.args.machine.now.top.next + 1) refl (c.go_past.ensures program) side n is
