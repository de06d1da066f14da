use Rattle.std.proofs.Common.{◌++◌, ◌∷◌, ◌∙◌, ap, sym}
use Rattle.mdr_meaning.specs.Printed.{printed}
use Rattle.mdr_events.specs.Values.{wires_of}
use Rattle.mdr_exec.specs.Printing.{reading_as}
use Rattle.mdr_exec.proofs.PrintLaws.{long_letter}
use Rattle.mdr_exec.proofs.printing.read_byte.Goals as goal

pub returns-in_ok-read-in-Long : goal.returns-in_ok-read-in-Long
returns-in_ok-read-in-Long c = λ bs.
    long_letter c.args.out.now.items c.args.byte (wires_of c.args.args.now) (λ rest. c.read_letter.new.out.items ++ printed (reading_as c.in_ok-read-in-Long.read.reading) rest (wires_of c.in_ok-read-in-Long.read.args.now))
    c.in_ok-read-in-Long.ensures bs
    ∙ ap (λ r. c.args.out.now.items ++ printed (reading_as r) (c.args.byte ∷ bs) (wires_of c.args.args.now)) (sym c.in-Long.is)
