use Rattle.std.proofs.Common.{◌∙◌}
use Rattle.std.proofs.lemmas.Result.{IfOk-weaker}
use Rattle.mdr_due.proofs.StageSteps.{err_weaker}
use Rattle.mdr_top.proofs.SeedSteps.{is_generated, is_generated_part}
use Rattle.mdr_top.proofs.seed_running.generated.Goals as goal

pub returns-clause-done : goal.returns-clause-done
returns-clause-done g c =
    IfOk-weaker c.ran_of.result _ _ (λ due d. is_generated c.args.recipe _ _ (c.as_slice-driver.ensures.value ∙ c.in_ok-texts.ensures.driver) (c.as_slice-lines.ensures.value ∙ c.in_ok-texts.ensures.script) _ _ due.status due.text.items d) c.ran_of.ensures.done

pub returns-clause-part : goal.returns-clause-part
returns-clause-part g c =
    err_weaker c.ran_of.result _ _ (λ d. is_generated_part c.args.recipe _ _ (c.as_slice-driver.ensures.value ∙ c.in_ok-texts.ensures.driver) (c.as_slice-lines.ensures.value ∙ c.in_ok-texts.ensures.script) _ _ d) c.ran_of.ensures.part
