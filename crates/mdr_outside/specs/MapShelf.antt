-- protocol
-- A shelf in memory: its files with their names, the calls that fail, and its counts.
use Rattle.std.specs.Prelude.{ℕ, ◌≤◌, Bool, true, not, ◌&&◌, List, [], ◌∷◌, map, find, length, nat_lt, Option, None, Some, option_map, if◌then◌else◌, String, Vec}
use Rattle.std.specs.List.{list_any}
use Rattle.std.specs.Str.{bytes_eq}
use Rattle.std.specs.String.{string_bytes}
use Rattle.mdr_outside.specs.Calls.{ShelfCall, Read, Written, and_then}
use Rattle.mdr_outside.specs.Count.{raised, is_failing}
use Rattle.mdr_outside.specs.declared.shelf.ReadAnswer.{ReadAnswer}
use Rattle.mdr_outside.specs.declared.shelf.ReadAnswer.TheVariants as reads
use Rattle.mdr_outside.specs.declared.shelf.WriteAnswer.{WriteAnswer}
use Rattle.mdr_outside.specs.declared.shelf.WriteAnswer.TheVariants as writes

pub record ShelfState : Type 0 where
  pub files : List (List ℕ × List ℕ)
  pub fails : List ℕ
  pub calls : ℕ
  pub faults : ℕ
  pub absent : ℕ
  pub long : ℕ
  pub unwritten : ℕ
  pub history : List ShelfCall

-- the bytes of a file's name
abbrev pub key_of : {A : Type 0} → String A × Vec ℕ A → List ℕ
key_of file = string_bytes file.0

-- the bytes of a file's name, and its own
abbrev pub view_of : {A : Type 0} → String A × Vec ℕ A → List ℕ × List ℕ
view_of file = (string_bytes file.0, file.1.items)

abbrev pub named : {A : Type 0} → List (String A × Vec ℕ A) → List (List ℕ × List ℕ)
named files = map view_of files

-- whether no two have one name
abbrev pub are_distinct : {X : Type 0} → (X → List ℕ) → List X → Bool
are_distinct name [] = true
are_distinct name (x ∷ xs) = not (list_any (λ other. bytes_eq (name other) (name x)) xs) && are_distinct name xs

-- the file of that name: the first, if there were two
abbrev pub file_in : List (List ℕ × List ℕ) → List ℕ → Option (List ℕ)
file_in files name = option_map (λ file. file.1) (find (λ file. bytes_eq file.0 name) files)

-- no call was made
abbrev pub new_shelf : List (List ℕ × List ℕ) → List ℕ → ShelfState
new_shelf files fails =
    record { files = files; fails = fails; calls = 0; faults = 0; absent = 0; long = 0; unwritten = 0; history = [] }

-- whether the next call fails
abbrev pub is_next_failing : ShelfState → Bool
is_next_failing s = is_failing s.fails (raised s.calls)

-- every count is what it was, or greater
pub record NoCountFell (old new : ShelfState) : Type 0 where
  pub faults : old.faults ≤ new.faults
  pub absent : old.absent ≤ new.absent
  pub long : old.long ≤ new.long
  pub unwritten : old.unwritten ≤ new.unwritten

-- what a read gives of a file, if there is one
abbrev pub found : Option (List ℕ) → ℕ → ReadAnswer
found None limit = reads.Missing
found (Some bytes) limit = if nat_lt limit (length bytes) then reads.TooLarge else reads.Ok bytes

-- what a read answers, unless memory is wanting
abbrev pub read_answer : ShelfState → List ℕ → ℕ → ReadAnswer
read_answer s name limit = if is_next_failing s then reads.Failed else found (file_in s.files name) limit

-- what a write answers, unless memory is wanting
abbrev pub write_answer : ShelfState → WriteAnswer
write_answer s = if is_next_failing s then writes.Failed else writes.Ok

-- the shelf after a read: the call is counted, and its answer. Where memory was wanting no count changes
abbrev pub count_read : ShelfState → ReadAnswer → ShelfState
count_read s (reads.Ok bytes) = record s { calls = raised s.calls }
count_read s reads.Missing = record s { calls = raised s.calls; absent = raised s.absent }
count_read s reads.TooLarge = record s { calls = raised s.calls; long = raised s.long }
count_read s reads.Failed = record s { calls = raised s.calls; faults = raised s.faults }
count_read s reads.OutOfMemory = s

abbrev pub after_read : ShelfState → List ℕ → ℕ → ReadAnswer → ShelfState
after_read s name limit answer = record (count_read s answer) { history = and_then s.history (Read name limit answer) }

-- the shelf after a write which left these files
abbrev pub count_write : ShelfState → List (List ℕ × List ℕ) → WriteAnswer → ShelfState
count_write s files writes.Ok = record s { files = files; calls = raised s.calls }
count_write s files writes.Failed = record s { calls = raised s.calls; unwritten = raised s.unwritten }
count_write s files writes.OutOfMemory = s

abbrev pub after_write : ShelfState → List (List ℕ × List ℕ) → List ℕ → List ℕ → WriteAnswer → ShelfState
after_write s files name bytes answer =
    record (count_write s files answer) { history = and_then s.history (Written name bytes answer) }
