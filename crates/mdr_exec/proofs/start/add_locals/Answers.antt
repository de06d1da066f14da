use Rattle.std.proofs.Common.{refl, map}
use Rattle.mdr_core.specs.Typing.{slot_of_local}
use Rattle.mdr_events.specs.Values.{wires_of}
use Rattle.mdr_exec.proofs.StartLaws.{one_slot}
use Rattle.mdr_exec.proofs.start.add_locals.Goals as goal

pub loop-local-preserved : goal.loop-local-preserved
loop-local-preserved c = λ whole h.
    one_slot slot_of_local (map slot_of_local) (λ y ys. refl) c.args.locals.now c.loop-local.local-index c.local-item.result (wires_of c.loop-local.slots) (wires_of c.add_slot.new.slots)
    (wires_of c.args.args.now) c.loop-local-test.true c.local-item.is c.in_ok-add_slot.ensures whole (c.loop-local.invariant whole h)
