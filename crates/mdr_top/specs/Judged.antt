-- protocol
-- What there is to say of bytes that may be the transcript of a run.
use Rattle.std.specs.Prelude.{◌≡◌, ℕ, true, List}
use Rattle.mdr_due.specs.declared.status.Status.{Status}
use Rattle.mdr_due.specs.declared.status.Status.TheVariants as status
use Rattle.mdr_exchanges.specs.Runs.{answers_of, sent_of}
use Rattle.mdr_outside.specs.declared.far.Exchange.{Exchange}
use Rattle.mdr_bound.specs.declared.bound.Bound.{Bound}
use Rattle.mdr_source.specs.declared.outcome.Source.{Source}
use Rattle.mdr_top.specs.Messages.{messages_in, with_messages}
use Rattle.mdr_verify.specs.declared.transcript.Transcript.{Transcript}
use Rattle.mdr_verify.specs.declared.verdict.Verdict.{Verdict}
use Rattle.mdr_verify.specs.declared.verdict.Verdict.TheVariants as verdict
use Rattle.mdr_verify.specs.Printed.{form_text, verdict_text}
use Rattle.mdr_verify.specs.Transcripts.{IsFault, IsTranscript}
use Rattle.mdr_verify.specs.Verdicts.{IsVerdict}
use Rattle.mdr_top.specs.TranscriptRuns.{IsHonestRun}

abbrev pub verdict_status : Verdict → Status
verdict_status (verdict.Yes number) = status.Done
verdict_status (verdict.Wrong w) = status.NotVerified
verdict_status (verdict.Report number) = status.NotVerified

-- the verdict over a transcript, where these are the messages, the answers and the report that are due
pub record Says (t : Transcript) (es : List Exchange) (report : List ℕ) (s : Status) (text : List ℕ) : Type 0 where
  pub found : Verdict
  pub judges : IsVerdict t (sent_of es) (answers_of es) report found
  pub status_is : s ≡ verdict_status found
  pub text_is : text ≡ verdict_text found

-- the first line with which no transcript goes on, or the first message, answer or line of the report that isn't due
pub data Differs (bytes : List ℕ) (es : List Exchange) (report : List ℕ) (s : Status) (text : List ℕ) : Type 0 where
  misread : (number : ℕ) → IsFault bytes number → s ≡ status.NotVerified → text ≡ form_text number → Differs bytes es report s text
  compared : (t : Transcript) → IsTranscript bytes t → Says t es report s text → Differs bytes es report s text

-- the bytes are what is printed of the run with its messages, and their number is told; or they aren't, and why
pub data IsSaid (bytes : List ℕ) (es : List Exchange) (report : List ℕ) (s : Status) (text : List ℕ) : Type 0 where
  same : bytes ≡ with_messages true es report → s ≡ status.Done → text ≡ verdict_text (verdict.Yes (messages_in es)) → IsSaid bytes es report s text
  differs : (bytes ≡ with_messages true es report → ⊥) → Differs bytes es report s text → IsSaid bytes es report s text

-- where the run is that of a script over the halves of a source
pub record IsJudged (source : Source) (script : Bound) (bytes : List ℕ) (s : Status) (text : List ℕ) : Type 0 where
  pub exchanges : List Exchange
  pub report : List ℕ
  pub run : IsHonestRun source script exchanges report
  pub said : IsSaid bytes exchanges report s text
