-- believed
-- Files that are written one after the other.
use Rattle.std.specs.Prelude.{◌≡◌, ℕ, List, [], ◌∷◌, codes}
use Rattle.mdr_outside.specs.Calls.{ShelfCall, Written, and_then}
use Rattle.mdr_outside.specs.Count.{Rose}
use Rattle.mdr_outside.specs.Shelf.{WritesTo}
use Rattle.mdr_outside.specs.declared.shelf.WriteAnswer.{WriteAnswer}
use Rattle.mdr_outside.specs.declared.shelf.WriteAnswer.TheVariants as writes
use Rattle.mdr_due.specs.declared.due.Stage.{Stage}
use Rattle.mdr_due.specs.declared.due.Stage.TheVariants as stage
use Rattle.mdr_due.specs.declared.status.Status.{Status}
use Rattle.mdr_due.specs.declared.status.Status.TheVariants as status
use Rattle.mdr_due.specs.Lines.{file_line}
use Rattle.mdr_due.specs.Reads.{Files}
use Rattle.mdr_slicer.specs.Outputs.{NamedBytes}

-- the one call of the shelf is a write of this file, and this is its answer
pub record IsPut (files files' : Files) (file : NamedBytes) (old new : List ShelfCall) (answer : WriteAnswer) : Type 0 where
  pub called : new ≡ and_then old (Written file.0 file.1 answer)
  pub told : WritesTo files files' file.0 file.1 answer

-- this very write failed, and this is due for it
pub record IsUnput (files files' : Files) (file : NamedBytes) (old new : List ShelfCall) (s : Status) (text : List ℕ) : Type 0 where
  pub put : IsPut files files' file old new writes.Failed
  pub status_is : s ≡ status.WriteFault
  pub text_is : text ≡ file_line (codes "write fault ") file.0

-- a write without which nothing goes on: it wanted memory, or it failed
pub data WasUnput (files files' : Files) (file : NamedBytes) (old new : List ShelfCall) : Type 0 where
  wanted : IsPut files files' file old new writes.OutOfMemory → WasUnput files files' file old new
  failed : IsPut files files' file old new writes.Failed → WasUnput files files' file old new

-- where a write ends the work, the count of writes that failed rose
abbrev pub HasWriteCause : {T : Type 0} → (before after : ℕ) → Stage T → Type 0
HasWriteCause before after (stage.Goes x) = Unit {0}
HasWriteCause before after (stage.Ends due) = Rose before after

-- all are written, and then these lines are due; or all up to the first whose write fails, and none after it
pub data Writes (lines : List ℕ) : List NamedBytes → (files files' : Files) → (old new : List ShelfCall) → Status → List ℕ → Type 0 where
  all : {files files' : Files} {old new : List ShelfCall} {s : Status} {text : List ℕ} → files' ≡ files → new ≡ old → s ≡ status.Done → text ≡ lines → Writes lines [] files files' old new s text
  fails : {files files' : Files} {old new : List ShelfCall} {s : Status} {text : List ℕ} (file : NamedBytes) (rest : List NamedBytes) → IsUnput files files' file old new s text → Writes lines (file ∷ rest) files files' old new s text
  next : {files files' : Files} {old new : List ShelfCall} {s : Status} {text : List ℕ} (file : NamedBytes) (rest : List NamedBytes) (later : Files) (between : List ShelfCall)
      → IsPut files later file old between writes.Ok → Writes lines rest later files' between new s text → Writes lines (file ∷ rest) files files' old new s text

-- as many are written as memory was there for
pub data WritesPart : List NamedBytes → (files files' : Files) → (old new : List ShelfCall) → Type 0 where
  ends : {files files' : Files} {old new : List ShelfCall} (file : NamedBytes) (rest : List NamedBytes) → WasUnput files files' file old new → WritesPart (file ∷ rest) files files' old new
  next : {files files' : Files} {old new : List ShelfCall} (file : NamedBytes) (rest : List NamedBytes) (later : Files) (between : List ShelfCall)
      → IsPut files later file old between writes.Ok → WritesPart rest later files' between new → WritesPart (file ∷ rest) files files' old new
