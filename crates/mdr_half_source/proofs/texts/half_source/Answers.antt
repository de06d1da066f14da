use Rattle.std.proofs.Common.{subst}
use Rattle.mdr_plan.specs.declared.plan_error.PlanError.{PlanError}
use Rattle.mdr_plan.specs.Texts.{Fails}
use Rattle.mdr_half_source.proofs.Steps.{refused_plan}
use Rattle.mdr_half_source.proofs.texts.half_source.Goals as goal

pub returns-in-Err-Line : goal.returns-in-Err-Line
returns-in-Err-Line c =
    refused_plan c.args.user.now c.args.plan.now c.in-Err-Line.field-0-0 c.in-Err-Line.field-0-1
    (subst (λ (x : PlanError). Fails x c.args.plan.now) c.in-Err-Line.field-0-is c.in-Err-Line.ensures)
