use Rattle.std.proofs.lemmas.Result.{IfOk-weaker}
use Rattle.mdr_watch.proofs.commands.called_back.Goals as goal

pub returns-in-Ok-clause-went : goal.returns-in-Ok-clause-went
returns-in-Ok-clause-went c =
    IfOk-weaker c.comes_on.result _ _
    (λ r h. h c.args.crossing.now c.args.world.world c.in-Ok.ensures.gave)
    c.comes_on.ensures.went
