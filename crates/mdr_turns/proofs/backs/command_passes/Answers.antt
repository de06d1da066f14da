use Rattle.std.proofs.Common.{◌∙◌, ap}
use Rattle.std.specs.Prelude.{map}
use Rattle.std.proofs.lemmas.Result.{IfOk-weaker}
use Rattle.mdr_events.specs.Values.{wires_of}
use Rattle.mdr_model.specs.Memory.{normal}
use Rattle.mdr_watch.specs.Watching.{driver_in}
use Rattle.mdr_turns.proofs.Resuming.{passes_so}
use Rattle.mdr_turns.proofs.backs.command_passes.Goals as goal

pub returns-in-Ok-clause-comes : goal.returns-in-Ok-clause-comes
returns-in-Ok-clause-comes c =
    IfOk-weaker c.calls-pending.result _ _
    (λ p h.
    passes_so (driver_in c.args.watch) p c.args.crossing.now c.args.between.world.world c.args.between.ledger c.args.behind (wires_of c.as_slice-in-Ok.result.now)
    (ap wires_of c.as_slice-in-Ok.ensures ∙ c.in-Ok.ensures ∙ ap (λ vs. map (normal c.args.between.world.world.memory) (wires_of vs)) c.as_slice.ensures) h)
    c.calls-pending.ensures.comes
