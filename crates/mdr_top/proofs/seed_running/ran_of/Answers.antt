use Rattle.std.proofs.lemmas.Result.{IfOk-weaker}
use Rattle.mdr_due.proofs.StageSteps.{err_weaker}
use Rattle.mdr_slicer.proofs.Steps.{gone}
use Rattle.mdr_top.specs.Generates.GeneratesPart.{over_part}
use Rattle.mdr_top.proofs.seed_running.ran_of.Goals as goal

pub returns-clause-done : goal.returns-clause-done
returns-clause-done g c = IfOk-weaker c.ran_over-due.result _ _ (λ due run. record { source = c.in-Ok-Goes.source; has = gone _ _ c.in-Ok-Goes.field-0 c.in-Ok-Goes.source c.in-Ok-Goes.field-0-is c.in-Ok-Goes.ensures; over = run }) c.ran_over-due.ensures.done

pub returns-clause-part : goal.returns-clause-part
returns-clause-part g c = err_weaker c.ran_over-due.result _ _ (λ part. over_part c.in-Ok-Goes.source (gone _ _ c.in-Ok-Goes.field-0 c.in-Ok-Goes.source c.in-Ok-Goes.field-0-is c.in-Ok-Goes.ensures) part) c.ran_over-due.ensures.part
