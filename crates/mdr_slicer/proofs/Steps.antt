-- The stages of cutting a source.
use Rattle.std.proofs.Common.{◌≡◌, ℕ, ◌+◌, ◌<◌, ◌≤◌, List, ◌∷◌, map, length, drop, get_or, Result, Ok, Err, refl, sym, ◌∙◌, ap, subst}
use Rattle.std.specs.Prelude.{IfOk}
use Rattle.std.proofs.lemmas.List.{at_drop_all, at_drop_more}
use Rattle.mdr_outside.specs.Calls.{ShelfCall}
use Rattle.mdr_outside.specs.declared.shelf.ReadAnswer.TheVariants as reads
use Rattle.mdr_outside.specs.declared.shelf.WriteAnswer.TheVariants as writes
use Rattle.mdr_due.specs.declared.due.Due.{Due}
use Rattle.mdr_due.specs.declared.due.Stage.{Stage}
use Rattle.mdr_due.specs.declared.due.Stage.TheVariants as stage
use Rattle.mdr_due.specs.declared.status.Status.{Status}
use Rattle.mdr_due.specs.declared.status.Status.TheVariants as status
use Rattle.mdr_due.specs.Reads.{Files, IsRead, longest_source}
use Rattle.mdr_due.specs.Stages.{StageIs}
use Rattle.mdr_source.specs.declared.outcome.Source.{Source}
use Rattle.mdr_slicer.specs.declared.outputs.File.{File}
use Rattle.mdr_slicer.specs.Outputs.{NamedBytes, file_of, outputs, length_lines}
use Rattle.mdr_slicer.specs.Writes.{IsPut, IsUnput, WasUnput, Writes, WritesPart}
use Rattle.mdr_slicer.specs.Slicing.{AreMade, HasSource, NoSource, IsSourceOf, NoSourceOf, Splits, SplitsPart}

-- ---- stages

pub gone : {T : Type 0} (P : T → Type 0) (Q : Status → List ℕ → Type 0) (st : Stage T) (x : T) → st ≡ stage.Goes x → StageIs P Q st → P x
gone P Q st x is h = subst (StageIs P Q) is h

pub ended : {T : Type 0} (P : T → Type 0) (Q : Status → List ℕ → Type 0) (st : Stage T) (due : Due) → st ≡ stage.Ends due → StageIs P Q st → Q due.status due.text.items
ended P Q st due is h = subst (StageIs P Q) is h

-- a file that was read, and what its bytes are
pub source_stage : (files : Files) (name : List ℕ) (old new : List ShelfCall) (bytes seen : List ℕ) (st : Stage Source) → seen ≡ bytes → IsRead files name longest_source old new (reads.Ok bytes) → StageIs (HasSource seen) (NoSource seen) st
    → StageIs (IsSourceOf files name old new) (NoSourceOf files name old new) st
source_stage files name old new bytes seen (stage.Goes source) is read has = record { bytes = bytes; read = read; has = subst (λ b. HasSource b source) is has }
source_stage files name old new bytes seen (stage.Ends due) is read none = NoSourceOf.refused bytes read (subst (λ b. NoSource b due.status due.text.items) is none)

-- ---- writing

-- what is left of the files is the next one and the rest
left : (files : List File) (i : ℕ) (file : File) → i < length files → file ≡ get_or files i file → map file_of (drop i files) ≡ file_of file ∷ map file_of (drop (i + 1) files)
left files i file inside is = at_drop_more (map file_of) files i file inside ∙ ap (λ (f : File). file_of f ∷ map file_of (drop (i + 1) files)) (sym is)

module _ (files : List File) (i : ℕ) (file : File) (inside : i < length files) (is : file ≡ get_or files i file) where
  pub fails_here : (lines : List ℕ) (held held' : Files) (old new : List ShelfCall) (s : Status) (text : List ℕ) → IsUnput held held' (file_of file) old new s text → Writes lines (map file_of (drop i files)) held held' old new s text
  fails_here lines held held' old new s text unput = subst (λ (xs : List NamedBytes). Writes lines xs held held' old new s text) (sym (left files i file inside is)) (Writes.fails (file_of file) (map file_of (drop (i + 1) files)) unput)

  pub goes_on : (lines : List ℕ) (held later held' : Files) (old between new : List ShelfCall) (s : Status) (text : List ℕ) → IsPut held later (file_of file) old between writes.Ok → Writes lines (map file_of (drop (i + 1) files)) later held' between new s text
      → Writes lines (map file_of (drop i files)) held held' old new s text
  goes_on lines held later held' old between new s text put rest = subst (λ (xs : List NamedBytes). Writes lines xs held held' old new s text) (sym (left files i file inside is)) (Writes.next (file_of file) (map file_of (drop (i + 1) files)) later between put rest)

  pub ends_here : (held held' : Files) (old new : List ShelfCall) → WasUnput held held' (file_of file) old new → WritesPart (map file_of (drop i files)) held held' old new
  ends_here held held' old new was = subst (λ (xs : List NamedBytes). WritesPart xs held held' old new) (sym (left files i file inside is)) (WritesPart.ends (file_of file) (map file_of (drop (i + 1) files)) was)

  pub part_goes_on : (held later held' : Files) (old between new : List ShelfCall) → IsPut held later (file_of file) old between writes.Ok → WritesPart (map file_of (drop (i + 1) files)) later held' between new
      → WritesPart (map file_of (drop i files)) held held' old new
  part_goes_on held later held' old between new put rest = subst (λ (xs : List NamedBytes). WritesPart xs held held' old new) (sym (left files i file inside is)) (WritesPart.next (file_of file) (map file_of (drop (i + 1) files)) later between put rest)

pub all_there : (lines : List ℕ) (files : List File) (i : ℕ) (held : Files) (calls : List ShelfCall) → length files ≤ i → Writes lines (map file_of (drop i files)) held held calls calls status.Done lines
all_there lines files i held calls over = subst (λ (xs : List NamedBytes). Writes lines xs held held calls calls status.Done lines) (sym (at_drop_all (map file_of) files i over)) (Writes.all refl refl refl refl)

-- ---- the whole command

pub ok_so : {A E : Type 0} (r : Result A E) (P Q : A → Type 0) → ((x : A) → P x → Q x) → IfOk r P → IfOk r Q
ok_so (Ok x) P Q f p = f x p
ok_so (Err e) P Q f p = tt

module _ (held later held' : Files) (name : List ℕ) (old between new : List ShelfCall) (source : Source) (files seen : List NamedBytes) (lines : List ℕ) (kept : later ≡ held) (same : seen ≡ files) (read : IsSourceOf held name old between source) (made : AreMade name source files lines) where
  seen_are : seen ≡ outputs name made.texts
  seen_are = same ∙ made.files_are

  pub splits_so : (s : Status) (text : List ℕ) → Writes lines seen later held' between new s text → Splits held held' name old new s text
  splits_so s text writes =
      Splits.written source made.texts between read made.are_texts
      (subst (λ (h : Files). Writes (length_lines (outputs name made.texts)) (outputs name made.texts) h held' between new s text) kept
      (subst (λ (fs : List NamedBytes). Writes (length_lines (outputs name made.texts)) fs later held' between new s text) seen_are
      (subst (λ (ls : List ℕ). Writes ls seen later held' between new s text) made.lines_are writes)))

  pub splits_part : WritesPart seen later held' between new → SplitsPart held held' name old new
  splits_part part =
      SplitsPart.written source made.texts between read made.are_texts
      (subst (λ (h : Files). WritesPart (outputs name made.texts) h held' between new) kept
      (subst (λ (fs : List NamedBytes). WritesPart fs later held' between new) seen_are part))
