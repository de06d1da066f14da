use Rattle.std.proofs.Common.{sym}
use Rattle.std.specs.Prelude.{drop}
use Rattle.mdr_events.specs.Values.{wires_of}
use Rattle.mdr_watch.specs.Watching.{driver_in}
use Rattle.mdr_turns.specs.States.{rest_of, upcall_of}
use Rattle.mdr_turns.proofs.Messages.{call_is}
use Rattle.mdr_turns.proofs.sending.call_sent.Goals as goal

pub returns-in-Ok-clause-comes : goal.returns-in-Ok-clause-comes
returns-in-Ok-clause-comes c = λ script before.
    sym (call_is (driver_in c.args.watch) c.args.waiting.seen c.requires.stands.seen c.args.waiting.ledger c.call_message.new.ledger (upcall_of c.args.waiting.open) (rest_of (driver_in c.args.watch) c.args.waiting.behind.frames) (drop c.args.waiting.behind.done script) before c.in-Ok.message
    c.args.callee.func c.args.callee.depth (wires_of c.args.callee.args.now) c.requires.begins c.in-Ok.ensures.is c.in-Ok.ensures.kept)
