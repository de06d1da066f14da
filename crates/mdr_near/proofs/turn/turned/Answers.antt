-- The answer was read, and memory was wanting for what it leads to.
use Rattle.mdr_exchanges.proofs.Stops.{on_err}
use Rattle.mdr_near.proofs.Steps.{broke_unread}
use Rattle.mdr_near.proofs.turn.turned.Goals as goal

pub returns-in_err-pending-in-Ok-Some-clause-broke : goal.returns-in_err-pending-in-Ok-Some-clause-broke
returns-in_err-pending-in-Ok-Some-clause-broke g c =
    on_err _ _ (broke_unread c.args.message _ _ _ _ _ _ c.in-Ok-Some.field-0 c.in-Ok-Some.reading c.in-Ok-Some.field-0-is c.in-Ok-Some.ensures.answered c.in-Ok-Some.ensures.called c.in-Ok-Some.ensures.counted)
