use Rattle.std.proofs.Common.{Err, subst}
use Rattle.std.proofs.lemmas.Result.{IfOk-weaker}
use Rattle.mdr_verify.specs.declared.transcript.TranscriptError.{TranscriptError}
use Rattle.mdr_verify.specs.Transcripts.{Transcribes}
use Rattle.mdr_top.specs.Judged.Differs.{compared, misread}
use Rattle.mdr_top.proofs.judging.differing.Goals as goal

pub returns-in-Ok : goal.returns-in-Ok
returns-in-Ok c = IfOk-weaker c.compared-due.result _ _ (λ due says. compared c.in-Ok.transcript c.in-Ok.ensures says) c.compared-due.ensures

pub returns-in-Err-Form : goal.returns-in-Err-Form
returns-in-Err-Form c =
    IfOk-weaker c.misread.result _ _ (λ due h. misread c.in-Err-Form.number (subst (λ (e : TranscriptError). Transcribes c.args.bytes.now (Err e)) c.in-Err-Form.field-0-is c.in-Err-Form.ensures) h.0 h.1) c.misread.ensures
