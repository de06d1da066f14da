use Rattle.std.proofs.lemmas.Result.{IfOk-weaker}
use Rattle.mdr_slicer.proofs.Steps.{ended, gone}
use Rattle.mdr_top.specs.Verifies.VerifiesRun.{unread}
use Rattle.mdr_top.proofs.TranscriptStages.{run_stage}
use Rattle.mdr_top.proofs.transcript_running.verified_run.Goals as goal

pub returns-in-Ok-Ends-clause-done : goal.returns-in-Ok-Ends-clause-done
returns-in-Ok-Ends-clause-done g c = unread (ended _ _ c.in-Ok-Ends.field-0 c.in-Ok-Ends.due c.in-Ok-Ends.field-0-is c.in-Ok-Ends.ensures.read)

pub returns-clause-done : goal.returns-clause-done
returns-clause-done g c =
    IfOk-weaker c.judged_run.result _ _
    (λ due j. run_stage (g.S.Shelf.files c.args.shelf.now) c.args.source.now c.args.script.now c.args.name.now (g.S.Shelf.calls c.args.shelf.now) (g.S.Shelf.calls c.file.new.shelf) c.in-Ok-Goes.bytes c.as_slice.result.now due.status due.text.items c.as_slice.ensures (gone _ _ c.in-Ok-Goes.field-0 c.in-Ok-Goes.bytes c.in-Ok-Goes.field-0-is c.in-Ok-Goes.ensures.read) j)
    c.judged_run.ensures.judged

pub returns-clause-read : goal.returns-clause-read
returns-clause-read g c = IfOk-weaker c.judged_run.result _ _ (λ due read. read _ _) c.judged_run.ensures.read
