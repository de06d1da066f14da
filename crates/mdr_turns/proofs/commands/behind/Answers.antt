use Rattle.mdr_turns.proofs.Ends.{stopped_is}
use Rattle.mdr_turns.proofs.commands.behind.Goals as goal

pub returns-in-Stopped-clause-comes : goal.returns-in-Stopped-clause-comes
returns-in-Stopped-clause-comes c = λ d script before go. stopped_is c.args.worked c.in-Stopped.kind c.in-Stopped.at c.args.between.ledger c.args.between.world.world before go c.in-Stopped.is
