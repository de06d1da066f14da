use Rattle.std.proofs.Common.{◌∙◌, ap, sym}
use Rattle.std.specs.Prelude.{map}
use Rattle.std.proofs.lemmas.Result.{IfOk-weaker}
use Rattle.mdr_events.specs.Values.{wires_of}
use Rattle.mdr_model.specs.Memory.{normal}
use Rattle.mdr_watch.proofs.Scripted.{atomic_gave, passed_gave}
use Rattle.mdr_watch.proofs.commands.calls_back.Goals as goal

pub returns-then-atomic-clause-gave : goal.returns-then-atomic-clause-gave
returns-then-atomic-clause-gave c = atomic_gave c.args.watch c.args.crossing.now c.args.world.world (sym c.atomic.ensures ∙ c.if-atomic.true)

pub returns-in-Ok-clause-gave : goal.returns-in-Ok-clause-gave
returns-in-Ok-clause-gave c =
    IfOk-weaker c.call_user-closed.result _ _
    (λ r h.
    passed_gave c.args.watch c.args.crossing.now c.args.world.world r.gave (wires_of c.as_slice-in-Ok.result.now) r.world.world (sym c.atomic.ensures ∙ c.if-atomic.false)
    (ap wires_of c.as_slice-in-Ok.ensures ∙ c.in-Ok.ensures ∙ ap (λ vs. map (normal c.args.world.world.memory) (wires_of vs)) c.as_slice.ensures) h)
    c.call_user-closed.ensures.gave
