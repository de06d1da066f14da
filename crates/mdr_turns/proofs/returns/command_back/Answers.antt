use Rattle.std.proofs.lemmas.Result.{IfOk-weaker}
use Rattle.mdr_watch.specs.Watching.{driver_in}
use Rattle.mdr_turns.proofs.Taking.{command_so}
use Rattle.mdr_turns.proofs.returns.command_back.Goals as goal

pub returns-clause-comes : goal.returns-clause-comes
returns-clause-comes c =
    IfOk-weaker c.goes_on.result _ _
    (λ p h. command_so (driver_in c.args.watch) c.args.begun c.args.script.now c.in_ok-commanded.commanded p c.args.between.ledger c.args.wait c.args.wire c.args.between.world.world c.in_ok-commanded.ensures.comes h)
    c.goes_on.ensures.comes
