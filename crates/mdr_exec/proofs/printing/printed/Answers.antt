use Rattle.std.proofs.Common.{refl}
use Rattle.mdr_core.specs.Services.{Plain}
use Rattle.mdr_meaning.specs.Printed.{printed}
use Rattle.mdr_events.specs.Values.{wires_of}
use Rattle.mdr_exec.specs.Printing.{reading_as}
use Rattle.mdr_exec.proofs.PrintLaws.{byte_read, text_read}
use Rattle.mdr_exec.proofs.printing.printed.Goals as goal

pub loop-byte-preserved : goal.loop-byte-preserved
loop-byte-preserved c =
    byte_read c.args.format.now c.loop-byte.byte-index _ _ (reading_as c.loop-byte.reading) (reading_as c.in_ok-read.read.reading) c.loop-byte.out.items c.read_byte.new.out.items
    (printed Plain c.args.format.now (wires_of c.args.args.now)) (wires_of c.loop-byte.left.now) (wires_of c.in_ok-read.read.args.now) c.loop-byte-test.true refl c.in_ok-read.ensures c.loop-byte.invariant

pub returns : goal.returns
returns c =
    text_read c.args.format.now c.loop-byte.byte-index (reading_as c.loop-byte.reading) c.loop-byte.out.items (printed Plain c.args.format.now (wires_of c.args.args.now)) (wires_of c.loop-byte.left.now)
    c.loop-byte-test.false c.loop-byte.invariant
