use Rattle.std.proofs.lemmas.Result.{IfOk-weaker}
use Rattle.mdr_meaning.specs.Values.{wire_of}
use Rattle.mdr_watch.specs.Watching.{driver_in}
use Rattle.mdr_turns.proofs.Taking.{given_so}
use Rattle.mdr_turns.proofs.returns.ended.Goals as goal

pub returns-clause-comes : goal.returns-clause-comes
returns-clause-comes c =
    IfOk-weaker c.command_gave.result _ _
    (λ r h. given_so (driver_in c.args.watch) r c.args.between.ledger (wire_of c.value_of.result) c.args.wire c.args.between.world.world c.value_of.ensures h)
    c.command_gave.ensures.comes
