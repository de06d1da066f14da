use Rattle.std.proofs.lemmas.Result.{IfOk-weaker}
use Rattle.mdr_watch.proofs.Scripted.{goes_on_for, stops_for}
use Rattle.mdr_watch.proofs.commands.comes_on.Goals as goal

pub returns-in-Value-clause-went : goal.returns-in-Value-clause-went
returns-in-Value-clause-went c =
    IfOk-weaker c.goes_on.result _ _
    (λ r h. goes_on_for c.args.watch c.args.paused c.args.closed.gave c.in-Value.value c.args.closed.world.world r.went r.world.world c.in-Value.is h)
    c.goes_on.ensures.went

pub returns-in-Stopped-clause-went : goal.returns-in-Stopped-clause-went
returns-in-Stopped-clause-went c = stops_for c.args.watch c.args.paused c.args.closed.gave c.in-Stopped.kind c.in-Stopped.at c.args.closed.world.world c.in-Stopped.is
