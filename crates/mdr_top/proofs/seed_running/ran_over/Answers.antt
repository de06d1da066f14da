use Rattle.std.proofs.lemmas.Result.{IfOk-weaker}
use Rattle.mdr_due.proofs.StageSteps.{on_err}
use Rattle.mdr_slicer.proofs.Steps.{gone}
use Rattle.mdr_top.specs.Generates.GeneratesOverPart.{ran_part}
use Rattle.mdr_top.proofs.seed_running.ran_over.Goals as goal

pub returns-clause-done : goal.returns-clause-done
returns-clause-done g c = IfOk-weaker c.ran-due.result _ _ (λ due run. record { script = c.in-Ok-Goes.script; bound = gone _ _ c.in-Ok-Goes.field-0 c.in-Ok-Goes.script c.in-Ok-Goes.field-0-is c.in-Ok-Goes.ensures; run = run }) c.ran-due.ensures.done

pub returns-clause-part : goal.returns-clause-part
returns-clause-part g c = on_err _ (ran_part c.in-Ok-Goes.script (gone _ _ c.in-Ok-Goes.field-0 c.in-Ok-Goes.script c.in-Ok-Goes.field-0-is c.in-Ok-Goes.ensures) c.ran-due.ensures.part)

pub judged-requires : goal.judged-requires
judged-requires g c = c.requires.numbers
