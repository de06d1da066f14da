use Rattle.std.proofs.lemmas.Result.{IfOk-weaker}
use Rattle.mdr_meaning.specs.Values.{wire_of}
use Rattle.mdr_watch.specs.Watching.{driver_in}
use Rattle.mdr_turns.proofs.Messages.{back_from}
use Rattle.mdr_turns.proofs.sending.back_told.Goals as goal

pub back_sent-requires : goal.back_sent-requires
back_sent-requires c = record { stands = c.in_ok-waiting.ensures.stands c.args.watch c.requires.active }

pub returns-clause-comes : goal.returns-clause-comes
returns-clause-comes c =
    IfOk-weaker c.back_sent.result _ _
    (λ p h. λ script before.
    back_from (driver_in c.args.watch) before script p c.in_ok-waiting.waiting.seen.guarded c.args.active.guarded c.in_ok-waiting.waiting.ledger c.args.active.ledger c.in_ok-waiting.waiting.behind c.args.active.behind
    c.in_ok-waiting.ensures.same c.in_ok-waiting.ensures.ledger c.in_ok-waiting.ensures.behind c.wire_of.result (wire_of c.args.value) c.in_ok-waiting.waiting.open c.args.active.open c.wire_of.ensures c.in_ok-waiting.ensures.open (h script before))
    c.back_sent.ensures.comes
