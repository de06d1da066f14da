use Rattle.std.proofs.lemmas.Result.{IfOk-weaker}
use Rattle.mdr_watch.specs.Watching.{driver_in}
use Rattle.mdr_turns.proofs.Messages.{counted_from}
use Rattle.mdr_turns.proofs.asks.answered.Goals as goal

pub returns-in-Ok-clause-comes : goal.returns-in-Ok-clause-comes
returns-in-Ok-clause-comes c =
    IfOk-weaker c.answer_told.result _ _
    (λ p h. λ at shapes bytes script before.
    counted_from (driver_in c.args.watch) before c.args.active.guarded.world script p c.args.active.ledger c.args.active.behind c.in-Ok.wires _ _ _
    c.in-Ok.ensures.wires (c.in-Ok.ensures.counted at shapes bytes) (h script before))
    c.answer_told.ensures.comes
