-- believed
-- Files that are read, and what is due where one isn't.
use Rattle.std.specs.Prelude.{◌≡◌, ℕ, List, codes, Option}
use Rattle.mdr_outside.specs.Calls.{ShelfCall, Read, and_then}
use Rattle.mdr_outside.specs.Shelf.{ReadsFrom}
use Rattle.mdr_outside.specs.declared.shelf.ReadAnswer.{ReadAnswer}
use Rattle.mdr_outside.specs.declared.shelf.ReadAnswer.TheVariants as reads
use Rattle.mdr_due.specs.declared.status.Status.{Status}
use Rattle.mdr_due.specs.declared.status.Status.TheVariants as status
use Rattle.mdr_due.specs.Lines.{file_line}

-- the files as functions of their names, told or not
abbrev pub Files : Type 0
Files = Option (List ℕ → Option (List ℕ))

-- a source has at most 1 MiB
abbrev pub longest_source : ℕ
longest_source = 1048576

-- a script has at most 256 KiB
abbrev pub longest_script : ℕ
longest_script = 262144

-- the one call of the shelf is a read of this name with this limit, and this is its answer
pub record IsRead (files : Files) (name : List ℕ) (limit : ℕ) (old new : List ShelfCall) (answer : ReadAnswer) : Type 0 where
  pub called : new ≡ and_then old (Read name limit answer)
  pub told : ReadsFrom files name limit answer

-- the same with these bytes for an answer
abbrev pub GaveBytes : Files → (name : List ℕ) → (limit : ℕ) → (old new : List ShelfCall) → (bytes : List ℕ) → Type 0
GaveBytes files name limit old new bytes = IsRead files name limit old new (reads.Ok bytes)

-- the same, whatever was answered
pub record WasRead (files : Files) (name : List ℕ) (limit : ℕ) (old new : List ShelfCall) : Type 0 where
  pub answer : ReadAnswer
  pub read : IsRead files name limit old new answer

-- what is due for an answer without bytes
pub data IsUnread (name : List ℕ) (answer : ReadAnswer) (s : Status) (text : List ℕ) : Type 0 where
  missing : answer ≡ reads.Missing → s ≡ status.Missing → text ≡ file_line (codes "missing ") name → IsUnread name answer s text
  long : answer ≡ reads.TooLarge → s ≡ status.TooLarge → text ≡ file_line (codes "too large ") name → IsUnread name answer s text
  failed : answer ≡ reads.Failed → s ≡ status.ReadFault → text ≡ file_line (codes "read fault ") name → IsUnread name answer s text

-- this very read gave no bytes
pub record UnreadBy (files : Files) (name : List ℕ) (limit : ℕ) (old new : List ShelfCall) (s : Status) (text : List ℕ) : Type 0 where
  pub answer : ReadAnswer
  pub read : IsRead files name limit old new answer
  pub why : IsUnread name answer s text
