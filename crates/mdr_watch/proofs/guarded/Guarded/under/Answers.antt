use Rattle.mdr_watch.proofs.Guards.{is_under, not_last}
use Rattle.mdr_watch.proofs.guarded.Guarded.under.Goals as goal

pub returns : goal.returns
returns c = (is_under c.args.self c.close.result c.in-Under.around c.in-Under.is c.close.ensures).0

pub unreachable-requires : goal.unreachable-requires
unreachable-requires c = not_last c.args.self c.close.result c.in-Last.field-0 c.requires.0 c.in-Last.is c.close.ensures c.requires.1
