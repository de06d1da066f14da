-- believed
-- What a shelf's answers say of its files, which are a function of the name.
use Rattle.std.specs.Prelude.{ℕ, ◌≡◌, ◌≢◌, ◌≤◌, ◌<◌, List, length, Option, None, Some, IfSome, IsSomeAnd}
use Rattle.mdr_outside.specs.Count.{raised}
use Rattle.mdr_outside.specs.declared.counts.Counts.{Counts}
use Rattle.mdr_outside.specs.declared.shelf.ReadAnswer.{ReadAnswer}
use Rattle.mdr_outside.specs.declared.shelf.ReadAnswer.TheVariants as reads
use Rattle.mdr_outside.specs.declared.shelf.WriteAnswer.{WriteAnswer}
use Rattle.mdr_outside.specs.declared.shelf.WriteAnswer.TheVariants as writes

-- what a read answers for the file of that name, if there is one
abbrev pub Reads : Option (List ℕ) → ℕ → ReadAnswer → Type 0
Reads file limit (reads.Ok bytes) = (file ≡ Some bytes) × (length bytes ≤ limit)
Reads file limit reads.Missing = file ≡ None
Reads file limit reads.TooLarge = IsSomeAnd file (λ bytes. limit < length bytes)
Reads file limit reads.Failed = Unit {0}
Reads file limit reads.OutOfMemory = Unit {0}

-- where the files are told, a read answers for the one of that name
abbrev pub ReadsFrom : Option (List ℕ → Option (List ℕ)) → List ℕ → ℕ → ReadAnswer → Type 0
ReadsFrom told name limit answer = IfSome told (λ files. Reads (files name) limit answer)

-- what was read is no longer than the limit
abbrev pub IsShort : ℕ → ReadAnswer → Type 0
IsShort limit (reads.Ok bytes) = length bytes ≤ limit
IsShort limit reads.Missing = Unit {0}
IsShort limit reads.TooLarge = Unit {0}
IsShort limit reads.Failed = Unit {0}
IsShort limit reads.OutOfMemory = Unit {0}

-- the file of that name is the bytes, and the others are as before
pub record Puts (old new : List ℕ → Option (List ℕ)) (name bytes : List ℕ) : Type 0 where
  pub file : new name ≡ Some bytes
  pub others : (other : List ℕ) → other ≢ name → new other ≡ old other

-- the files after a write that was done, told where they were told
abbrev pub IsWritten : Option (List ℕ → Option (List ℕ)) → Option (List ℕ → Option (List ℕ)) → List ℕ → List ℕ → Type 0
IsWritten None new name bytes = new ≡ None
IsWritten (Some files) new name bytes = IsSomeAnd new (λ later. Puts files later name bytes)

-- what a write leaves of the files
abbrev pub WritesTo : Option (List ℕ → Option (List ℕ)) → Option (List ℕ → Option (List ℕ)) → List ℕ → List ℕ → WriteAnswer → Type 0
WritesTo old new name bytes writes.Ok = IsWritten old new name bytes
WritesTo old new name bytes writes.Failed = new ≡ old
WritesTo old new name bytes writes.OutOfMemory = new ≡ old

-- ---- counts

-- every count is what it was, or greater
pub record NoneFell (old new : Counts) : Type 0 where
  pub faults : old.faults ≤ new.faults
  pub absent : old.absent ≤ new.absent
  pub long : old.long ≤ new.long
  pub unwritten : old.unwritten ≤ new.unwritten

-- the count of a read's answer is raised, and no other changes
abbrev pub counts_after_read : Counts → ReadAnswer → Counts
counts_after_read c (reads.Ok bytes) = c
counts_after_read c reads.Missing = record c { absent = raised c.absent }
counts_after_read c reads.TooLarge = record c { long = raised c.long }
counts_after_read c reads.Failed = record c { faults = raised c.faults }
counts_after_read c reads.OutOfMemory = c

-- likewise for a write
abbrev pub counts_after_write : Counts → WriteAnswer → Counts
counts_after_write c writes.Ok = c
counts_after_write c writes.Failed = record c { unwritten = raised c.unwritten }
counts_after_write c writes.OutOfMemory = c
