use Rattle.std.proofs.Common.{refl}
use Rattle.std.proofs.lemmas.Result.{IfOk-weaker}
use Rattle.mdr_due.proofs.StageSteps.{err_weaker}
use Rattle.mdr_slicer.proofs.Steps.{ended, gone}
use Rattle.mdr_top.specs.SplitRuns.SplitRunsOver.{no_script, ran}
use Rattle.mdr_top.specs.SplitRuns.SplitRunsOverPart.{ran_part}
use Rattle.mdr_top.proofs.split_running.split_run_over.Goals as goal

pub returns-in-Ok-Ends-clause-done : goal.returns-in-Ok-Ends-clause-done
returns-in-Ok-Ends-clause-done g c = no_script (ended _ _ c.in-Ok-Ends.field-0 c.in-Ok-Ends.due c.in-Ok-Ends.field-0-is c.in-Ok-Ends.ensures.read) refl

pub returns-clause-done : goal.returns-clause-done
returns-clause-done g c =
    IfOk-weaker c.run_shown-due.result _ _ (λ due run. ran c.in-Ok-Goes.script (gone _ _ c.in-Ok-Goes.field-0 c.in-Ok-Goes.script c.in-Ok-Goes.field-0-is c.in-Ok-Goes.ensures.read) run) c.run_shown-due.ensures.done

pub returns-clause-part : goal.returns-clause-part
returns-clause-part g c =
    err_weaker c.run_shown-due.result _ _ (λ part. ran_part c.in-Ok-Goes.script (gone _ _ c.in-Ok-Goes.field-0 c.in-Ok-Goes.script c.in-Ok-Goes.field-0-is c.in-Ok-Goes.ensures.read) part) c.run_shown-due.ensures.part

pub script_of-requires : goal.script_of-requires
script_of-requires g c = c.requires.numbers
