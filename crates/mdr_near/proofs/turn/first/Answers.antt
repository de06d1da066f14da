use Rattle.mdr_meaning.specs.Bodies.{known_of}
use Rattle.mdr_watch.proofs.Alone.{none_first}
use Rattle.mdr_near.proofs.Steps.{first_comes}
use Rattle.mdr_near.proofs.turn.first.Goals as goal

pub returns-clause-comes : goal.returns-clause-comes
returns-clause-comes c =
    first_comes c.args.watch.program.now c.args.watch.plan.now c.args.script.now c.args.ticks c.as_slice.result.now c.in_ok-world.world c.in_ok-pending.pending c.as_slice.ensures c.in_ok-world.ensures c.in_ok-pending.ensures.comes

pub begun-requires-clause-alone : goal.begun-requires-clause-alone
begun-requires-clause-alone c = none_first c.args.watch.program.now (known_of c.args.watch.program.now) c.args.script.now c.args.ticks c.in_ok-world.world c.in_ok-world.ensures
