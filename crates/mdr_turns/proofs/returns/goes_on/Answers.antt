use Rattle.std.proofs.lemmas.Result.{IfOk-weaker}
use Rattle.mdr_watch.specs.Watching.{driver_in}
use Rattle.mdr_turns.proofs.Taking.{goes_so, rests_so}
use Rattle.mdr_turns.proofs.returns.goes_on.Goals as goal

pub returns-in-Goes-clause-comes : goal.returns-in-Goes-clause-comes
returns-in-Goes-clause-comes c =
    IfOk-weaker c.do_commands.result _ _ (λ p h. goes_so (driver_in c.args.watch) c.args.begun c.args.script.now c.args.commanded p c.in-Goes.between c.in-Goes.is h) c.do_commands.ensures.comes

pub returns-in-Rests-clause-comes : goal.returns-in-Rests-clause-comes
returns-in-Rests-clause-comes c = rests_so (driver_in c.args.watch) c.args.begun c.args.script.now c.args.commanded c.in-Rests.pending c.in-Rests.is
