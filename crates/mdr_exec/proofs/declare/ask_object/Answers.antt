use Rattle.std.proofs.Common.{◌+◌, ap, refl}
use Rattle.mdr_events.specs.Steps.{Asks}
use Rattle.mdr_exec.specs.declared.event.Outcome.TheVariants as outcome
use Rattle.mdr_exec.proofs.DeclaringLaws.{object_asked}
use Rattle.mdr_exec.proofs.declare.ask_object.Goals as goal

pub returns : goal.returns
returns g c = λ program side n s some object asks shape is.
    object_asked g.C.Memory.accesses program c.args.machine.now c.args.memory.now c.requires.runs side n c.args.i is s c.args.shape (outcome.Service c.in_ok-asked.asked) (c.args.machine.now.top.next + 1)
    (ap Asks c.in_ok-asked.ensures) refl some object asks shape
