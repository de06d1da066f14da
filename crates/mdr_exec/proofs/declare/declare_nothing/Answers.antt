use Rattle.std.proofs.Common.{◌+◌, refl}
use Rattle.mdr_exec.specs.Holding.{held_of}
use Rattle.mdr_exec.proofs.DeclaringLaws.{nothing_declared}
use Rattle.mdr_exec.proofs.declare.declare_nothing.Goals as goal

pub returns : goal.returns
returns g c = λ i program side n none is.
    nothing_declared g.C.Memory.accesses program c.args.machine.now c.args.memory.now c.requires.runs side n i is (c.args.machine.now.top.next + 1) (held_of program c.go_past.new.machine) refl (c.go_past.ensures program) none
