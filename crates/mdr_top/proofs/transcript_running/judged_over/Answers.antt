use Rattle.std.proofs.Common.{arith}
use Rattle.mdr_due.specs.Statuses.{HasReadCause}
use Rattle.mdr_top.proofs.TranscriptStages.{judged_so, said_holds}
use Rattle.mdr_top.proofs.transcript_running.judged_over.Goals as goal

pub returns-clause-judged : goal.returns-clause-judged
returns-clause-judged c =
    judged_so c.args.source.now c.args.script.now c.args.bytes.now _ _ _ _ c.as_slice.result.now c.exchanges.result.now _ _ c.in_ok-report.ensures.done c.is_honest.ensures (λ e. let rose = c.in_ok-report.ensures.failed e in omega (arith, rose)) c.exchanges.ensures c.as_slice.ensures.value c.in_ok-due.ensures

pub returns-clause-read : goal.returns-clause-read
returns-clause-read c = λ before after. said_holds (HasReadCause before after) tt tt _ _ _ _ _ c.in_ok-due.ensures
