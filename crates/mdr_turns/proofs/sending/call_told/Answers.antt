use Rattle.std.proofs.Common.{◌∙◌, ap}
use Rattle.std.proofs.lemmas.Result.{IfOk-weaker}
use Rattle.mdr_events.specs.Values.{wires_of}
use Rattle.mdr_watch.specs.Watching.{driver_in}
use Rattle.mdr_turns.specs.States.{upcall_of}
use Rattle.mdr_turns.proofs.Messages.{call_from}
use Rattle.mdr_turns.proofs.sending.call_told.Goals as goal

pub call_sent-requires-clause-stands : goal.call_sent-requires-clause-stands
call_sent-requires-clause-stands c = c.in_ok-waiting.ensures.stands c.args.watch c.requires.active

pub call_sent-requires-clause-begins : goal.call_sent-requires-clause-begins
call_sent-requires-clause-begins c = ap upcall_of c.in_ok-waiting.ensures.open ∙ c.requires.begins

pub returns-clause-comes : goal.returns-clause-comes
returns-clause-comes c =
    IfOk-weaker c.call_sent.result _ _
    (λ p h. λ script before.
    call_from (driver_in c.args.watch) before script p c.in_ok-waiting.waiting.seen.guarded c.args.active.guarded c.in_ok-waiting.waiting.ledger c.args.active.ledger c.in_ok-waiting.waiting.behind c.args.active.behind
    c.in_ok-waiting.ensures.same c.in_ok-waiting.ensures.ledger c.in_ok-waiting.ensures.behind c.args.callee.func c.args.callee.depth (wires_of c.args.callee.args.now) (h script before))
    c.call_sent.ensures.comes
