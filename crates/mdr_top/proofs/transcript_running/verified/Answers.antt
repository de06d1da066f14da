use Rattle.std.proofs.lemmas.Result.{IfOk-weaker}
use Rattle.mdr_due.proofs.StageSteps.{err_weaker}
use Rattle.mdr_slicer.proofs.Steps.{ended, gone}
use Rattle.mdr_top.proofs.Stages.{since}
use Rattle.mdr_top.specs.Verifies.Verifies.{no_source}
use Rattle.mdr_top.proofs.TranscriptStages.{verifies_part_so, verifies_so}
use Rattle.mdr_top.proofs.transcript_running.verified.Goals as goal

pub returns-in-Ok-Ends-clause-done : goal.returns-in-Ok-Ends-clause-done
returns-in-Ok-Ends-clause-done g c = no_source (ended _ _ c.in-Ok-Ends.field-0 c.in-Ok-Ends.due c.in-Ok-Ends.field-0-is c.in-Ok-Ends.ensures.read)

pub returns-clause-done : goal.returns-clause-done
returns-clause-done g c =
    IfOk-weaker c.verified_over-due.result _ _
    (λ due v. verifies_so (g.S.Shelf.files c.args.shelf.now) (g.S.Shelf.files c.source_of.new.shelf) c.args.source_name.now c.args.script_name.now c.args.name.now (g.S.Shelf.calls c.args.shelf.now) (g.S.Shelf.calls c.source_of.new.shelf) (g.S.Shelf.calls c.verified_over-due.new.shelf) c.in-Ok-Goes.source c.source_of.ensures.kept (gone _ _ c.in-Ok-Goes.field-0 c.in-Ok-Goes.source c.in-Ok-Goes.field-0-is c.in-Ok-Goes.ensures.read) due.status due.text.items v)
    c.verified_over-due.ensures.done

pub returns-clause-part : goal.returns-clause-part
returns-clause-part g c =
    err_weaker c.verified_over-due.result _ _
    (λ part. verifies_part_so (g.S.Shelf.files c.args.shelf.now) (g.S.Shelf.files c.source_of.new.shelf) c.args.source_name.now c.args.script_name.now c.args.name.now (g.S.Shelf.calls c.args.shelf.now) (g.S.Shelf.calls c.source_of.new.shelf) (g.S.Shelf.calls c.verified_over-due.new.shelf) c.in-Ok-Goes.source c.source_of.ensures.kept (gone _ _ c.in-Ok-Goes.field-0 c.in-Ok-Goes.source c.in-Ok-Goes.field-0-is c.in-Ok-Goes.ensures.read) part)
    c.verified_over-due.ensures.part

pub returns-clause-read : goal.returns-clause-read
returns-clause-read g c =
    IfOk-weaker c.verified_over-due.result _ _ (λ due cause. since _ _ _ due.status c.source_of.ensures.faults_later c.source_of.ensures.absent_later c.source_of.ensures.long_later cause) c.verified_over-due.ensures.read
