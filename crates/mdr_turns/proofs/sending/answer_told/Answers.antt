use Rattle.std.proofs.lemmas.Result.{IfOk-weaker}
use Rattle.mdr_watch.specs.Watching.{driver_in}
use Rattle.mdr_turns.proofs.Messages.{answer_from}
use Rattle.mdr_turns.proofs.sending.answer_told.Goals as goal

pub answer_sent-requires : goal.answer_sent-requires
answer_sent-requires c = record { stands = c.in-Ok.ensures.stands c.args.watch c.requires.active }

pub returns-in-Ok-clause-comes : goal.returns-in-Ok-clause-comes
returns-in-Ok-clause-comes c =
    IfOk-weaker c.answer_sent.result _ _
    (λ p h. λ script before.
    answer_from (driver_in c.args.watch) before script p c.in-Ok.waiting.seen.guarded c.args.active.guarded c.in-Ok.waiting.ledger c.args.active.ledger c.in-Ok.waiting.behind c.args.active.behind
    c.in-Ok.ensures.same c.in-Ok.ensures.ledger c.in-Ok.ensures.behind c.args.results c.in-Ok.waiting.open c.args.active.open c.in-Ok.ensures.open (h script before))
    c.answer_sent.ensures.comes
