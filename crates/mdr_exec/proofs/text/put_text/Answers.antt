use Rattle.std.proofs.Common.{refl}
use Rattle.mdr_meaning.specs.Values.{wire_of}
use Rattle.mdr_exec.specs.Effects.{texts_of}
use Rattle.mdr_exec.proofs.TextLaws.{text_goes, text_stops, text_ends}
use Rattle.mdr_exec.proofs.text.put_text.Goals as goal

pub loop-i-preserved : goal.loop-i-preserved
loop-i-preserved g c =
    text_goes g.C.Memory.accesses c.args.kind (wire_of c.args.pointer) c.args.bytes.now c.loop-i.i _ _ c.loop-i.memory c.put_byte-done.new.memory c.put_byte-done.result c.in-Ok.field-0
    (λ l. texts_of g.C.Memory.accesses c.args.kind (wire_of c.args.pointer) 0 c.args.bytes.now l c.args.memory.now) c.loop-i-test.true refl c.put_byte-done.ensures c.in-Ok.is c.loop-i.invariant

pub returns-in-Err : goal.returns-in-Err
returns-in-Err g c =
    text_stops g.C.Memory.accesses c.args.kind (wire_of c.args.pointer) c.args.bytes.now c.loop-i.i _ _ c.loop-i.memory c.put_byte-done.new.memory c.put_byte-done.result c.in-Err.stop
    (λ l. texts_of g.C.Memory.accesses c.args.kind (wire_of c.args.pointer) 0 c.args.bytes.now l c.args.memory.now) c.loop-i-test.true refl c.put_byte-done.ensures c.in-Err.is c.loop-i.invariant

pub returns : goal.returns
returns g c =
    text_ends g.C.Memory.accesses c.args.kind (wire_of c.args.pointer) c.args.bytes.now c.loop-i.i c.loop-i.memory
    (λ l. texts_of g.C.Memory.accesses c.args.kind (wire_of c.args.pointer) 0 c.args.bytes.now l c.args.memory.now) c.loop-i-test.false c.loop-i.invariant
