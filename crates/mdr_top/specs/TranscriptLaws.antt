-- protocol
-- What is known of runs over honest far sides, and of transcripts that are judged by them.
use Rattle.std.specs.Prelude.{◌≡◌, ◌↔◌, ℕ, true, List}
use Rattle.mdr_due.specs.declared.status.Status.{Status}
use Rattle.mdr_due.specs.declared.status.Status.TheVariants as status
use Rattle.mdr_outside.specs.declared.far.Exchange.{Exchange}
use Rattle.mdr_bound.specs.declared.bound.Bound.{Bound}
use Rattle.mdr_slicer.specs.Slicing.{HasSource}
use Rattle.mdr_source.specs.declared.outcome.Source.{Source}
use Rattle.mdr_top.specs.Messages.{with_messages}
use Rattle.mdr_top.specs.Judged.{IsJudged}
use Rattle.mdr_top.specs.TranscriptRuns.{IsHonestRun}

-- the status tells that the bytes are what is printed of the run with its messages, or that they aren't
pub data IsExactly (bytes : List ℕ) (es : List Exchange) (report : List ℕ) (s : Status) : Type 0 where
  same : bytes ≡ with_messages true es report → s ≡ status.Done → IsExactly bytes es report s
  other : (bytes ≡ with_messages true es report → ⊥) → s ≡ status.NotVerified → IsExactly bytes es report s

-- one list of exchanges, and one report
pub record AreOne (es others : List Exchange) (report other : List ℕ) : Type 0 where
  pub exchanges : es ≡ others
  pub reports : report ≡ other

-- whatever honest far sides answer that never fail, there is one run of a script over the halves of a source
abbrev pub HonestRunsAreOne : Type 0
HonestRunsAreOne =
    (bytes : List ℕ) (source : Source) (script : Bound) (es others : List Exchange) (report other : List ℕ)
    → HasSource bytes source → IsHonestRun source script es report → IsHonestRun source script others other → AreOne es others report other

-- so a transcript is verified exactly where it is what is printed of that run, whichever honest far side it is made over
abbrev pub VerifiedTranscriptsArePrinted : Type 0
VerifiedTranscriptsArePrinted =
    (bytes : List ℕ) (source : Source) (script : Bound) (transcript : List ℕ) (s : Status) (text : List ℕ) (es : List Exchange) (report : List ℕ)
    → HasSource bytes source → IsJudged source script transcript s text → IsHonestRun source script es report → (s ≡ status.Done) ↔ (transcript ≡ with_messages true es report)
