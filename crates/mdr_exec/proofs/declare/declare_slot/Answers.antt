use Rattle.std.proofs.Common.{◌+◌, refl}
use Rattle.mdr_exec.specs.Holding.{held_of}
use Rattle.mdr_exec.proofs.DeclaringLaws.{slot_declared}
use Rattle.mdr_exec.proofs.declare.declare_slot.Goals as goal

pub returns : goal.returns
returns g c = λ program side n s some object type is.
    slot_declared g.C.Memory.accesses program c.args.machine.now c.args.memory.now c.requires.runs side n c.args.i is s c.args.ty.now c.before_declared.result c.set.new.self (c.args.machine.now.top.next + 1)
    (held_of program c.go_past.new.machine) c.before_declared.ensures c.set.ensures refl (c.go_past.ensures program) some object type
