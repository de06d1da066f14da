-- protocol
-- What judging a transcript does to the shelf, and what is due for it: one constructor for each way that it goes.
use Rattle.std.specs.Prelude.{ℕ, List}
use Rattle.mdr_due.specs.declared.status.Status.{Status}
use Rattle.mdr_due.specs.Reads.{Files, IsRead, UnreadBy, WasRead, longest_script, longest_source}
use Rattle.mdr_outside.specs.Calls.{ShelfCall}
use Rattle.mdr_outside.specs.declared.shelf.ReadAnswer.TheVariants as reads
use Rattle.mdr_top.specs.Scripts.{IsScriptOf, NoScriptOf}
use Rattle.mdr_bound.specs.declared.bound.Bound.{Bound}
use Rattle.mdr_slicer.specs.Slicing.{IsSourceOf, NoSourceOf}
use Rattle.mdr_source.specs.declared.outcome.Source.{Source}
use Rattle.mdr_top.specs.Judged.{IsJudged}

-- a transcript has at most 64 MiB
abbrev pub longest_transcript : ℕ
longest_transcript = 67108864

-- ---- a source, a script, and a transcript that is read

pub data VerifiesRun (files : Files) (source : Source) (script : Bound) (name : List ℕ) (old new : List ShelfCall) (s : Status) (text : List ℕ) : Type 0 where
  unread : UnreadBy files name longest_transcript old new s text → VerifiesRun files source script name old new s text
  judged : (bytes : List ℕ) → IsRead files name longest_transcript old new (reads.Ok bytes) → IsJudged source script bytes s text → VerifiesRun files source script name old new s text

-- ---- a source, and what is read behind it

pub data VerifiesOver (files : Files) (source : Source) (script_name name : List ℕ) (old new : List ShelfCall) (s : Status) (text : List ℕ) : Type 0 where
  no_script : NoScriptOf files source.program script_name old new s text → VerifiesOver files source script_name name old new s text
  scripted : (script : Bound) (between : List ShelfCall) → IsScriptOf files source.program script_name old between script → VerifiesRun files source script name between new s text → VerifiesOver files source script_name name old new s text

-- as much of it was done as memory was there for
pub data VerifiesOverPart (files : Files) (source : Source) (script_name name : List ℕ) (old new : List ShelfCall) : Type 0 where
  script_read : WasRead files script_name longest_script old new → VerifiesOverPart files source script_name name old new
  transcript_read : (script : Bound) (between : List ShelfCall) → IsScriptOf files source.program script_name old between script → WasRead files name longest_transcript between new → VerifiesOverPart files source script_name name old new

-- ---- all of it

pub data Verifies (files : Files) (source_name script_name name : List ℕ) (old new : List ShelfCall) (s : Status) (text : List ℕ) : Type 0 where
  no_source : NoSourceOf files source_name old new s text → Verifies files source_name script_name name old new s text
  sourced : (source : Source) (between : List ShelfCall) → IsSourceOf files source_name old between source → VerifiesOver files source script_name name between new s text → Verifies files source_name script_name name old new s text

pub data VerifiesPart (files : Files) (source_name script_name name : List ℕ) (old new : List ShelfCall) : Type 0 where
  source_read : WasRead files source_name longest_source old new → VerifiesPart files source_name script_name name old new
  over_part : (source : Source) (between : List ShelfCall) → IsSourceOf files source_name old between source → VerifiesOverPart files source script_name name between new → VerifiesPart files source_name script_name name old new
