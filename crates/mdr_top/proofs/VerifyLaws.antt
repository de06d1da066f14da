-- What is done with a transcript is what is due for it.
use Rattle.std.proofs.Common.{◌≢◌, ℕ, List}
use Rattle.mdr_due.specs.declared.status.Status.{Status}
use Rattle.mdr_due.specs.declared.status.Status.TheVariants as status
use Rattle.mdr_due.specs.Reads.{Files, longest_script}
use Rattle.mdr_outside.specs.Calls.{ShelfCall}
use Rattle.mdr_top.specs.Scripts.{NoScriptOf}
use Rattle.mdr_bound.specs.declared.bound.Bound.{Bound}
use Rattle.mdr_source.specs.declared.outcome.Source.{Source}
use Rattle.mdr_top.proofs.TranscriptStages.{said_holds}
use Rattle.mdr_top.specs.Verifies.{Verifies, VerifiesOver, VerifiesRun, longest_transcript}
use Rattle.mdr_top.specs.Answers.{Untaken, IsTaken, ScriptAnswered, TranscriptDue, VerifyAnswered}
use Rattle.mdr_top.proofs.CutLaws.{unread_so, untaken_so}
use Rattle.mdr_top.proofs.Statuses.{HoldsSourceless, answered_status, unread_status, untaken_status}

-- ---- what is due

run_so : (files : Files) (source : Source) (script : Bound) (name : List ℕ) (old new : List ShelfCall) (s : Status) (text : List ℕ) → VerifiesRun files source script name old new s text → TranscriptDue files name s text source script
run_so files source script name old new s text (VerifiesRun.unread u) = TranscriptDue.unread (unread_so files name longest_transcript old new s text u)
run_so files source script name old new s text (VerifiesRun.judged bytes read j) = TranscriptDue.judged bytes read.told j

pub verified_so : (files : Files) (source_name script_name name : List ℕ) (old new : List ShelfCall) (s : Status) (text : List ℕ) → Verifies files source_name script_name name old new s text → VerifyAnswered files source_name script_name name s text
verified_so files source_name script_name name old new s text (Verifies.no_source none) = ScriptAnswered.no_source (untaken_so files source_name old new s text none)
verified_so files source_name script_name name old new s text (Verifies.sourced source between read (VerifiesOver.no_script (NoScriptOf.unread u))) =
    ScriptAnswered.script_unread source (record { bytes = read.bytes; read = read.read.told; has = read.has }) (unread_so files script_name longest_script between new s text u)
verified_so files source_name script_name name old new s text (Verifies.sourced source between read (VerifiesOver.no_script (NoScriptOf.refused lines told none))) =
    ScriptAnswered.script_refused source lines (record { bytes = read.bytes; read = read.read.told; has = read.has }) told.told none
verified_so files source_name script_name name old new s text (Verifies.sourced source between read (VerifiesOver.scripted script between' given run)) =
    ScriptAnswered.ran source given.bytes script (record { bytes = read.bytes; read = read.read.told; has = read.has }) given.read.told given.has (run_so files source script name between' new s text run)

-- ---- statuses

-- P holds of each status with which a transcript is told
pub record HoldsVerified (P : Status → Type 0) : Type 0 where
  pub sourceless : HoldsSourceless P
  pub scriptless : P status.ScriptRefused
  pub done : P status.Done
  pub other : P status.NotVerified

pub verified_status : (P : Status → Type 0) → HoldsVerified P → (files : Files) (source_name script_name name : List ℕ) (old new : List ShelfCall) (s : Status) (text : List ℕ) → Verifies files source_name script_name name old new s text → P s
verified_status P holds files source_name script_name name old new s text verifies =
    answered_status P holds.sourceless files s text (Untaken files source_name) (IsTaken files source_name) script_name (TranscriptDue files name s text) (untaken_status P holds.sourceless files s text source_name) holds.scriptless (λ source script due. of source script due)
    (verified_so files source_name script_name name old new s text verifies)
  where
    of : (source : Source) (script : Bound) → TranscriptDue files name s text source script → P s
    of source script (TranscriptDue.unread u) = unread_status P holds.sourceless files s text name longest_transcript u
    of source script (TranscriptDue.judged bytes read j) = said_holds P holds.done holds.other bytes j.exchanges j.report s text j.said

-- none of them tells of a fault in writing, or of the far side
pub verified_unwritten : (files : Files) (source_name script_name name : List ℕ) (old new : List ShelfCall) (s : Status) (text : List ℕ) → Verifies files source_name script_name name old new s text → s ≢ status.WriteFault
verified_unwritten files source_name script_name name old new s text v = verified_status (λ x. x ≢ status.WriteFault)
    (record { sourceless = record { missing = λ e. Prim.cc; long = λ e. Prim.cc; failed = λ e. Prim.cc; refused = λ e. Prim.cc }; scriptless = λ e. Prim.cc; done = λ e. Prim.cc; other = λ e. Prim.cc })
    files source_name script_name name old new s text v

pub verified_unfailed : (files : Files) (source_name script_name name : List ℕ) (old new : List ShelfCall) (s : Status) (text : List ℕ) → Verifies files source_name script_name name old new s text → s ≢ status.FarFault
verified_unfailed files source_name script_name name old new s text v = verified_status (λ x. x ≢ status.FarFault)
    (record { sourceless = record { missing = λ e. Prim.cc; long = λ e. Prim.cc; failed = λ e. Prim.cc; refused = λ e. Prim.cc }; scriptless = λ e. Prim.cc; done = λ e. Prim.cc; other = λ e. Prim.cc })
    files source_name script_name name old new s text v

pub verified_unrefused : (files : Files) (source_name script_name name : List ℕ) (old new : List ShelfCall) (s : Status) (text : List ℕ) → Verifies files source_name script_name name old new s text → s ≢ status.Marshal
verified_unrefused files source_name script_name name old new s text v = verified_status (λ x. x ≢ status.Marshal)
    (record { sourceless = record { missing = λ e. Prim.cc; long = λ e. Prim.cc; failed = λ e. Prim.cc; refused = λ e. Prim.cc }; scriptless = λ e. Prim.cc; done = λ e. Prim.cc; other = λ e. Prim.cc })
    files source_name script_name name old new s text v
