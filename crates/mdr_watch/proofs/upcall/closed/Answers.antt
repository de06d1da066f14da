use Rattle.mdr_watch.proofs.Nested.{closed_stopped, closed_value, only_here}
use Rattle.mdr_watch.proofs.upcall.closed.Goals as goal

pub alone-world-requires : goal.alone-world-requires
alone-world-requires c = only_here c.args.gave c.in-Value.value c.args.guarded.world _ c.in-Value.is c.below-open.ensures c.requires.only

pub returns-in-Value-clause-gave : goal.returns-in-Value-clause-gave
returns-in-Value-clause-gave c = closed_value c.args.gave c.in-Value.value c.args.guarded c.alone-world.result c.in-Value.is c.alone-world.ensures.is

pub returns-in-Stopped-clause-gave : goal.returns-in-Stopped-clause-gave
returns-in-Stopped-clause-gave c = closed_stopped c.args.gave c.in-Stopped.kind c.in-Stopped.at c.args.guarded c.leave-world.result c.in-Stopped.is c.leave-world.ensures
