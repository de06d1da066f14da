use Rattle.std.proofs.Common.{refl}
use Rattle.std.proofs.lemmas.Result.{IfOk-weaker}
use Rattle.mdr_due.proofs.StageSteps.{err_weaker}
use Rattle.mdr_slicer.proofs.Steps.{ended, gone}
use Rattle.mdr_top.proofs.Steps.{runs_part, runs_so}
use Rattle.mdr_top.specs.SplitRuns.SplitRuns.{no_source}
use Rattle.mdr_top.proofs.split_running.split_over.Goals as goal

pub returns-in-Ok-Ends-clause-done : goal.returns-in-Ok-Ends-clause-done
returns-in-Ok-Ends-clause-done g c = no_source (ended _ _ c.in-Ok-Ends.field-0 c.in-Ok-Ends.due c.in-Ok-Ends.field-0-is c.in-Ok-Ends.ensures.read) refl

pub returns-clause-done : goal.returns-clause-done
returns-clause-done g c =
    IfOk-weaker c.split_run_over-due.result _ _
    (λ due runs. runs_so (g.S.Shelf.files c.args.shelf.now) (g.S.Shelf.files c.source_of.new.shelf) c.args.source_name.now c.args.script_name.now c.args.manner (g.S.Shelf.calls c.args.shelf.now) (g.S.Shelf.calls c.source_of.new.shelf) (g.S.Shelf.calls c.split_run_over-due.new.shelf) _ _ c.in-Ok-Goes.source c.source_of.ensures.kept (gone _ _ c.in-Ok-Goes.field-0 c.in-Ok-Goes.source c.in-Ok-Goes.field-0-is c.in-Ok-Goes.ensures.read) due.status due.text.items runs)
    c.split_run_over-due.ensures.done

pub returns-clause-part : goal.returns-clause-part
returns-clause-part g c =
    err_weaker c.split_run_over-due.result _ _
    (λ part. runs_part (g.S.Shelf.files c.args.shelf.now) (g.S.Shelf.files c.source_of.new.shelf) c.args.source_name.now c.args.script_name.now c.args.manner (g.S.Shelf.calls c.args.shelf.now) (g.S.Shelf.calls c.source_of.new.shelf) (g.S.Shelf.calls c.split_run_over-due.new.shelf) _ _ c.in-Ok-Goes.source c.source_of.ensures.kept (gone _ _ c.in-Ok-Goes.field-0 c.in-Ok-Goes.source c.in-Ok-Goes.field-0-is c.in-Ok-Goes.ensures.read) part)
    c.split_run_over-due.ensures.part
