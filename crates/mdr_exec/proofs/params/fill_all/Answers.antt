use Rattle.std.proofs.Common.{◌∙◌, refl, sym}
use Rattle.mdr_events.specs.Values.{wires_of}
use Rattle.mdr_exec.specs.Effects.{fills_of}
use Rattle.mdr_exec.specs.Storing.{with_slots}
use Rattle.mdr_exec.proofs.ParamLaws.{all_params_filled, fill_ends_here, fill_goes, no_pointer}
use Rattle.mdr_exec.proofs.params.fill_all.Goals as goal

pub loop-i-preserved : goal.loop-i-preserved
loop-i-preserved g c =
    fill_goes g.C.Memory.accesses c.args.params.now c.args.pointers.now c.loop-i.i (with_slots c.loop-i.slots (wires_of c.loop-i.born)) c.loop-i.memory _ _ c.in-Some.pointer c.in_ok-done-in-Some.done c.in-Ok.field-0 (with_slots c.fill_one.new.slots (wires_of c.fill_one.new.born)) c.fill_one.new.memory
    (fills_of g.C.Memory.accesses c.args.params.now (wires_of c.args.pointers.now) (with_slots c.args.slots.now (wires_of c.args.born.now)) c.args.memory.now) c.loop-i-test.true refl (sym c.pointer_at.ensures ∙ c.in-Some.is) c.in_ok-done-in-Some.ensures c.in-Ok.is c.loop-i.invariant

pub returns-in-Err : goal.returns-in-Err
returns-in-Err g c =
    fill_ends_here g.C.Memory.accesses c.args.params.now c.args.pointers.now c.loop-i.i (with_slots c.loop-i.slots (wires_of c.loop-i.born)) c.loop-i.memory _ _ c.in-Some.pointer c.in_ok-done-in-Some.done c.in-Err.stop (with_slots c.fill_one.new.slots (wires_of c.fill_one.new.born)) c.fill_one.new.memory
    (fills_of g.C.Memory.accesses c.args.params.now (wires_of c.args.pointers.now) (with_slots c.args.slots.now (wires_of c.args.born.now)) c.args.memory.now) c.loop-i-test.true refl (sym c.pointer_at.ensures ∙ c.in-Some.is) c.in_ok-done-in-Some.ensures c.in-Err.is c.loop-i.invariant

pub returns-in-None : goal.returns-in-None
returns-in-None g c = no_pointer g.C.Memory.accesses c.args.params.now c.args.pointers.now c.loop-i.i (with_slots c.loop-i.slots (wires_of c.loop-i.born)) c.loop-i.memory (fills_of g.C.Memory.accesses c.args.params.now (wires_of c.args.pointers.now) (with_slots c.args.slots.now (wires_of c.args.born.now)) c.args.memory.now) (sym c.pointer_at.ensures ∙ c.in-None.is) c.loop-i.invariant

pub returns : goal.returns
returns g c = all_params_filled g.C.Memory.accesses c.args.params.now c.args.pointers.now c.loop-i.i (with_slots c.loop-i.slots (wires_of c.loop-i.born)) c.loop-i.memory (fills_of g.C.Memory.accesses c.args.params.now (wires_of c.args.pointers.now) (with_slots c.args.slots.now (wires_of c.args.born.now)) c.args.memory.now) c.loop-i-test.false c.loop-i.invariant
