use Rattle.std.proofs.Common.{◌+◌, refl}
use Rattle.mdr_exec.proofs.DeclaringLaws.{object_born}
use Rattle.mdr_exec.proofs.declare.bear.Goals as goal

pub returns : goal.returns
returns g c = λ program side n s some object asks shape is.
    object_born g.C.Memory.accesses program c.args.machine.now c.args.memory.now c.requires.runs side n c.args.i is s c.args.shape c.in_ok-pointer.pointer c.born_one.new.memory (c.args.machine.now.top.next + 1)
    c.in_ok-pointer.ensures.pointer c.in_ok-pointer.ensures.memory refl some object asks shape
