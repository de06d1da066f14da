use Rattle.std.proofs.lemmas.Result.{IfOk-weaker}
use Rattle.mdr_due.proofs.StageSteps.{err_weaker}
use Rattle.mdr_slicer.proofs.Steps.{ended, gone}
use Rattle.mdr_top.proofs.Stages.{since}
use Rattle.mdr_top.specs.Verifies.VerifiesOver.{no_script}
use Rattle.mdr_top.proofs.TranscriptStages.{over_part_so, over_so}
use Rattle.mdr_top.proofs.transcript_running.verified_over.Goals as goal

pub returns-in-Ok-Ends-clause-done : goal.returns-in-Ok-Ends-clause-done
returns-in-Ok-Ends-clause-done g c = no_script (ended _ _ c.in-Ok-Ends.field-0 c.in-Ok-Ends.due c.in-Ok-Ends.field-0-is c.in-Ok-Ends.ensures.read)

pub returns-clause-done : goal.returns-clause-done
returns-clause-done g c =
    IfOk-weaker c.verified_run-due.result _ _
    (λ due v. over_so (g.S.Shelf.files c.args.shelf.now) (g.S.Shelf.files c.script_of.new.shelf) c.args.source.now c.args.script_name.now c.args.name.now (g.S.Shelf.calls c.args.shelf.now) (g.S.Shelf.calls c.script_of.new.shelf) (g.S.Shelf.calls c.verified_run-due.new.shelf) c.in-Ok-Goes.script c.script_of.ensures.kept (gone _ _ c.in-Ok-Goes.field-0 c.in-Ok-Goes.script c.in-Ok-Goes.field-0-is c.in-Ok-Goes.ensures.read) due.status due.text.items v)
    c.verified_run-due.ensures.done

pub returns-clause-part : goal.returns-clause-part
returns-clause-part g c =
    err_weaker c.verified_run-due.result _ _
    (λ was. over_part_so (g.S.Shelf.files c.args.shelf.now) (g.S.Shelf.files c.script_of.new.shelf) c.args.source.now c.args.script_name.now c.args.name.now (g.S.Shelf.calls c.args.shelf.now) (g.S.Shelf.calls c.script_of.new.shelf) (g.S.Shelf.calls c.verified_run-due.new.shelf) c.in-Ok-Goes.script c.script_of.ensures.kept (gone _ _ c.in-Ok-Goes.field-0 c.in-Ok-Goes.script c.in-Ok-Goes.field-0-is c.in-Ok-Goes.ensures.read) was)
    c.verified_run-due.ensures.part

pub returns-clause-read : goal.returns-clause-read
returns-clause-read g c =
    IfOk-weaker c.verified_run-due.result _ _ (λ due cause. since _ _ _ due.status c.script_of.ensures.faults_later c.script_of.ensures.absent_later c.script_of.ensures.long_later cause) c.verified_run-due.ensures.read

pub script_of-requires : goal.script_of-requires
script_of-requires g c = c.requires.numbers
