use Rattle.mdr_meaning.specs.Values.{wire_of}
use Rattle.mdr_exec.proofs.KeepingLaws.{nothing_kept}
use Rattle.mdr_exec.proofs.keep.keep_nothing.Goals as goal

pub returns : goal.returns
returns g c = λ program side n comes. nothing_kept program c.args.machine.now g.C.Memory.accesses c.args.memory.now side n (wire_of c.args.value) comes
