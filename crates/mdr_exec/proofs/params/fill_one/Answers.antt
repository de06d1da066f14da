use Rattle.std.proofs.Common.{◌∙◌, ap}
use Rattle.mdr_meaning.specs.Expressions.{slot_of}
use Rattle.mdr_events.specs.Values.{wires_of}
use Rattle.mdr_exec.proofs.ParamLaws.{fill_stopped, filled_one}
use Rattle.mdr_exec.proofs.params.fill_one.Goals as goal

pub returns-in_ok-push-in-Ok : goal.returns-in_ok-push-in-Ok
returns-in_ok-push-in-Ok g c =
    filled_one g.C.Memory.accesses c.args.memory.now c.stored-done.new.memory c.args.slots.now c.args.born.now c.args.i c.args.pointer c.slot_value-value.result c.stored-done.result (c.slot_value-value.ensures ∙ ap (λ xs. slot_of (wires_of xs) c.args.i) c.as_slice.ensures) c.stored-done.ensures
    c.set.new.self c.push.new.self c.in-Ok.field-0 c.in-Ok.is c.set.ensures c.in_ok-push-in-Ok.ensures.ok

pub returns-in-Err : goal.returns-in-Err
returns-in-Err g c =
    fill_stopped g.C.Memory.accesses c.args.memory.now c.stored-done.new.memory c.args.slots.now c.args.born.now c.args.i c.args.pointer c.slot_value-value.result c.stored-done.result (c.slot_value-value.ensures ∙ ap (λ xs. slot_of (wires_of xs) c.args.i) c.as_slice.ensures) c.stored-done.ensures
    c.in-Err.stop c.in-Err.is
