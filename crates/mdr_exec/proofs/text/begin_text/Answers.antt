use Rattle.std.proofs.Common.{◌+◌, option_map, refl}
use Rattle.mdr_exec.specs.Declaring.{slot_as}
use Rattle.mdr_exec.specs.Holding.{held_of}
use Rattle.mdr_exec.proofs.TextLaws.{text_put, text_stopped}
use Rattle.mdr_exec.proofs.text.begin_text.Goals as goal

pub returns-in-Ok : goal.returns-in-Ok
returns-in-Ok g c =
    text_put g.C.Memory.accesses c.args.program.now c.args.machine.now c.args.memory.now c.put_text-done.new.memory c.requires.runs c.args.i c.args.bytes.now c.characters-kind.result c.slot_at.result c.as_slice.result.now
    (option_map slot_as c.slot_in.result) c.put_text-done.result c.slot_in.ensures c.characters-kind.ensures c.slot_at.ensures c.as_slice.ensures c.put_text-done.ensures
    c.in-Ok.field-0 (c.args.machine.now.top.next + 1) (held_of c.args.program.now c.go_past.new.machine) c.in-Ok.is refl (c.go_past.ensures c.args.program.now)

pub returns-in-Err : goal.returns-in-Err
returns-in-Err g c =
    text_stopped g.C.Memory.accesses c.args.program.now c.args.machine.now c.args.memory.now c.put_text-done.new.memory c.requires.runs c.args.i c.args.bytes.now c.characters-kind.result c.slot_at.result c.as_slice.result.now
    (option_map slot_as c.slot_in.result) c.put_text-done.result c.slot_in.ensures c.characters-kind.ensures c.slot_at.ensures c.as_slice.ensures c.put_text-done.ensures
    c.in-Err.stop (held_of c.args.program.now c.args.machine.now) c.in-Err.is
