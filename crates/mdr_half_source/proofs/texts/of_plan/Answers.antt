use Rattle.std.proofs.Common.{subst, sym}
use Rattle.mdr_half_source.specs.Halves.{ComeTo}
use Rattle.mdr_half_source.specs.Stages.{HasHalf}
use Rattle.mdr_half_source.proofs.Steps.{refused_half}
use Rattle.mdr_half_source.proofs.texts.of_plan.Goals as goal

pub returns-in-Ok-None : goal.returns-in-Ok-None
returns-in-Ok-None c = λ text is.
    subst (λ r. ComeTo c.args.user.now text r) (sym c.refused.ensures)
    (refused_half c.args.user.now text c.args.plan is (subst (λ o. HasHalf c.args.user.now c.args.plan o) c.in-Ok-None.field-0-is c.in-Ok-None.ensures))
