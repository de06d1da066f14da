use Rattle.mdr_events.specs.Values.{wires_of}
use Rattle.mdr_exec.proofs.PrintLaws.{percent_begins, plain_put}
use Rattle.mdr_exec.proofs.printing.read_plain.Goals as goal

pub returns-then-byte-eq37 : goal.returns-then-byte-eq37
returns-then-byte-eq37 c = percent_begins c.args.out.now.items c.args.byte (wires_of c.args.args.now) c.if-byte-eq37.true

pub returns-in_ok-push : goal.returns-in_ok-push
returns-in_ok-push c = plain_put c.args.out.now.items c.args.byte (wires_of c.args.args.now) c.push.new.self.items c.if-byte-eq37.false c.in_ok-push.ensures.items
