use Rattle.std.proofs.Common.{◌∙◌, ap}
use Rattle.std.specs.Prelude.{map}
use Rattle.std.proofs.lemmas.Result.{IfOk-weaker}
use Rattle.mdr_events.specs.Values.{wires_of}
use Rattle.mdr_model.specs.Memory.{normal}
use Rattle.mdr_watch.specs.Watching.{driver_in}
use Rattle.mdr_turns.proofs.Resuming.{passes_so}
use Rattle.mdr_turns.proofs.backs.down_passes.Goals as goal

pub returns-in-Ok-clause-comes : goal.returns-in-Ok-clause-comes
returns-in-Ok-clause-comes c =
    IfOk-weaker c.calls_over-pending.result _ _
    (λ p h.
    passes_so (driver_in c.args.watch) p c.args.back.now c.args.within.guarded.world c.args.within.ledger c.args.within.behind (wires_of c.as_slice-in-Ok.result.now)
    (ap wires_of c.as_slice-in-Ok.ensures ∙ c.in-Ok.ensures ∙ (λ i. map (normal (c.world.ensures.memory i)) (wires_of (c.as_slice.ensures i)))) h)
    c.calls_over-pending.ensures.comes
