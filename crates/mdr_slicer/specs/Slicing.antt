-- believed
-- What cutting a source does to the shelf, and what is due for it: one constructor for each way that it goes.
use Rattle.std.specs.Prelude.{◌≡◌, ℕ, List, Ok, Err}
use Rattle.mdr_core.specs.declared.program.Program.{Program}
use Rattle.mdr_core.specs.Sound.{IsSound}
use Rattle.mdr_outside.specs.Calls.{ShelfCall}
use Rattle.mdr_outside.specs.declared.shelf.ReadAnswer.TheVariants as reads
use Rattle.mdr_cut.specs.declared.texts.Texts.{Texts}
use Rattle.mdr_cut.specs.Cuts.{AreTexts, IsReport}
use Rattle.mdr_due.specs.declared.status.Status.{Status}
use Rattle.mdr_due.specs.declared.status.Status.TheVariants as status
use Rattle.mdr_due.specs.Reads.{Files, IsRead, WasRead, UnreadBy, longest_source}
use Rattle.mdr_source.specs.declared.refusal.Refusal.{Refusal}
use Rattle.mdr_source.specs.declared.outcome.Source.{Source}
use Rattle.mdr_source.specs.Lines.{refusal_line}
use Rattle.mdr_source.specs.Sources.{Comes}
use Rattle.mdr_slicer.specs.Outputs.{NamedBytes, outputs, length_lines}
use Rattle.mdr_slicer.specs.Writes.{Writes, WritesPart}

-- ---- sources

-- a source's bytes have this tree and this program, which is sound
pub record HasSource (bytes : List ℕ) (source : Source) : Type 0 where
  pub comes : Comes bytes (Ok source)
  pub sound : IsSound source.program

-- a source that is refused
pub record NoSource (bytes : List ℕ) (s : Status) (text : List ℕ) : Type 0 where
  pub refusal : Refusal
  pub comes : Comes bytes (Err refusal)
  pub status_is : s ≡ status.SourceRefused
  pub text_is : text ≡ refusal_line refusal

-- this very read gave the bytes of this source
pub record IsSourceOf (files : Files) (name : List ℕ) (old new : List ShelfCall) (source : Source) : Type 0 where
  pub bytes : List ℕ
  pub read : IsRead files name longest_source old new (reads.Ok bytes)
  pub has : HasSource bytes source

-- this very read gave no bytes, or those of a source that is refused
pub data NoSourceOf (files : Files) (name : List ℕ) (old new : List ShelfCall) (s : Status) (text : List ℕ) : Type 0 where
  unread : UnreadBy files name longest_source old new s text → NoSourceOf files name old new s text
  refused : (bytes : List ℕ) → IsRead files name longest_source old new (reads.Ok bytes) → NoSource bytes s text → NoSourceOf files name old new s text

-- ---- its texts, written

-- the files of a source's texts, and the lines that tell their lengths
pub record AreMade (name : List ℕ) (source : Source) (files : List NamedBytes) (lines : List ℕ) : Type 0 where
  pub texts : Texts
  pub are_texts : AreTexts source.tree source.program texts
  pub files_are : files ≡ outputs name texts
  pub lines_are : lines ≡ length_lines (outputs name texts)

-- the source is read, and nothing else is done where there is none; or its texts are written
pub data Splits (files files' : Files) (name : List ℕ) (old new : List ShelfCall) (s : Status) (text : List ℕ) : Type 0 where
  no_source : files' ≡ files → NoSourceOf files name old new s text → Splits files files' name old new s text
  written : (source : Source) (texts : Texts) (between : List ShelfCall) → IsSourceOf files name old between source → AreTexts source.tree source.program texts
      → Writes (length_lines (outputs name texts)) (outputs name texts) files files' between new s text → Splits files files' name old new s text

-- as much of it was done as memory was there for
pub data SplitsPart (files files' : Files) (name : List ℕ) (old new : List ShelfCall) : Type 0 where
  read : files' ≡ files → WasRead files name longest_source old new → SplitsPart files files' name old new
  written : (source : Source) (texts : Texts) (between : List ShelfCall) → IsSourceOf files name old between source → AreTexts source.tree source.program texts
      → WritesPart (outputs name texts) files files' between new → SplitsPart files files' name old new

-- ---- its report

-- the report of a program is due
pub record IsReported (program : Program) (s : Status) (text : List ℕ) : Type 0 where
  pub is_report : IsReport program text
  pub status_is : s ≡ status.Done

-- the source is read, and its report is due where there is one
pub data Reports (files : Files) (name : List ℕ) (old new : List ShelfCall) (s : Status) (text : List ℕ) : Type 0 where
  no_source : NoSourceOf files name old new s text → Reports files name old new s text
  reported : (source : Source) → IsSourceOf files name old new source → IsReported source.program s text → Reports files name old new s text
