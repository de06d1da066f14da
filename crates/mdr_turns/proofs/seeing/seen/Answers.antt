use Rattle.mdr_turns.proofs.Behind.{stands_so}
use Rattle.mdr_turns.proofs.seeing.seen.Goals as goal

pub returns-in-Ok-clause-stands : goal.returns-in-Ok-clause-stands
returns-in-Ok-clause-stands c = λ watch active. stands_so watch c.args.active c.beside.result c.beside.ensures.same c.beside.ensures.ledger c.beside.ensures.behind c.beside.ensures.seen active
