use Rattle.std.proofs.Common.{ap, length, ◌∙◌}
use Rattle.mdr_top.specs.SplitRuns.IsSplitPart.{loaded}
use Rattle.mdr_top.proofs.Steps.{with_three}
use Rattle.mdr_top.proofs.split_running.left_over.Goals as goal

pub returns-clause-done : goal.returns-clause-done
returns-clause-done g c =
    with_three c.ran-left.result _ _ _ _ (λ l ran called laid. record { outcome = record { plan = c.in-Ok.cut.plan; texts = c.in-Ok.cut.texts; cut = c.in-Ok.ensures; loads = called; ran = ran }; laid = laid })
    c.ran-left.ensures.ran c.ran-left.ensures.called c.ran-left.ensures.laid

pub returns-clause-part : goal.returns-clause-part
returns-clause-part g c = loaded c.in-Ok.cut.plan c.in-Ok.cut.texts c.in-Ok.ensures c.ran-left.ensures.part

pub ran-left-requires-clause-fit : goal.ran-left-requires-clause-fit
ran-left-requires-clause-fit g c = ap length c.in-Ok.ensures.plan_is.is_plan.halves_are ∙ c.in-Ok.ensures.plan_is.are_halves.halves_size
