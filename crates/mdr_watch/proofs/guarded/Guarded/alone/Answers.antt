use Rattle.mdr_watch.proofs.Guards.{is_last, not_under}
use Rattle.mdr_watch.proofs.guarded.Guarded.alone.Goals as goal

pub returns-clause-is : goal.returns-clause-is
returns-clause-is c = (is_last c.args.self c.close.result c.in-Last.world c.in-Last.is c.close.ensures).0

pub returns-clause-alone : goal.returns-clause-alone
returns-clause-alone c = (is_last c.args.self c.close.result c.in-Last.world c.in-Last.is c.close.ensures).1

pub unreachable-requires : goal.unreachable-requires
unreachable-requires c = not_under c.args.self c.close.result c.in-Under.field-0 c.in-Under.is c.close.ensures c.requires
