use Rattle.std.proofs.Common.{refl, map, ◌++◌, arith}
use Rattle.mdr_core.specs.Typing.{slot_of_param}
use Rattle.mdr_events.specs.Values.{wires_of}
use Rattle.mdr_exec.proofs.StartLaws.{one_slot, slots_done}
use Rattle.mdr_exec.proofs.start.add_params.Goals as goal

pub loop-param-preserved : goal.loop-param-preserved
loop-param-preserved c = λ rest whole h.
    one_slot slot_of_param (λ ys. map slot_of_param ys ++ rest) (λ y ys. refl) c.args.params.now c.loop-param.param-index c.param-item.result (wires_of c.loop-param.slots) (wires_of c.add_slot.new.slots)
    (wires_of c.args.args.now) c.loop-param-test.true c.param-item.is c.in_ok-add_slot.ensures whole (c.loop-param.invariant rest whole h)

pub returns : goal.returns
returns c = λ rest whole h.
    slots_done (λ ys. map slot_of_param ys ++ rest) c.args.params.now c.loop-param.param-index (wires_of c.loop-param.slots) (wires_of c.args.args.now) whole (omega (arith, c.loop-param-test.false))
    (c.loop-param.invariant rest whole h)
