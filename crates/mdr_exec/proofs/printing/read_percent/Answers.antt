use Rattle.std.proofs.Common.{◌++◌}
use Rattle.mdr_meaning.specs.Printed.{printed}
use Rattle.mdr_events.specs.Values.{wires_of}
use Rattle.mdr_exec.specs.Printing.{reading_as}
use Rattle.mdr_exec.proofs.PrintLaws.{long_begins, percent_letter, percent_put}
use Rattle.mdr_exec.proofs.printing.read_percent.Goals as goal

pub returns-then-byte-eq37 : goal.returns-then-byte-eq37
returns-then-byte-eq37 c = percent_put c.args.out.now.items c.args.byte (wires_of c.args.args.now) c.push.new.self.items c.if-byte-eq37.true c.in_ok-push.ensures.items

pub returns-then-byte-eq108 : goal.returns-then-byte-eq108
returns-then-byte-eq108 c = long_begins c.args.out.now.items c.args.byte (wires_of c.args.args.now) c.if-byte-eq37.false c.if-byte-eq108.true

pub returns : goal.returns
returns c =
    percent_letter c.args.out.now.items c.args.byte (wires_of c.args.args.now) (λ bs. c.read_letter.new.out.items ++ printed (reading_as c.in_ok-read.read.reading) bs (wires_of c.in_ok-read.read.args.now))
    c.if-byte-eq37.false c.if-byte-eq108.false c.in_ok-read.ensures
