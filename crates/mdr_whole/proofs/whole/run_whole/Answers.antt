use Rattle.std.proofs.lemmas.Result.{IfOk-weaker}
use Rattle.mdr_whole.proofs.Scripts.{ran_whole}
use Rattle.mdr_whole.proofs.whole.run_whole.Goals as goal

pub returns : goal.returns
returns c =
    IfOk-weaker c.shown_of-shown.result _ _
    (λ o h. ran_whole c.args.program.now c.args.script.now c.args.ticks c.in_ok-world.world c.as_slice.result.now o c.in_ok-world.ensures c.as_slice.ensures h)
    c.shown_of-shown.ensures
