-- What stages say.
use Rattle.std.proofs.Common.{◌≡◌, ℕ, List, Result, Ok, Err, subst}
use Rattle.std.specs.Prelude.{IfOk, OnErr}
use Rattle.mdr_core.specs.declared.memory_error.OutOfMemory.{OutOfMemory}
use Rattle.mdr_due.specs.declared.due.Due.{Due}
use Rattle.mdr_due.specs.declared.due.Stage.{Stage}
use Rattle.mdr_due.specs.declared.due.Stage.TheVariants as stage
use Rattle.mdr_due.specs.declared.status.Status.{Status}
use Rattle.mdr_due.specs.Stages.{StageIs, IsDue}
use Rattle.mdr_outside.specs.Calls.{ShelfCall, Read, and_then}
use Rattle.mdr_outside.specs.Shelf.{ReadsFrom}
use Rattle.mdr_outside.specs.declared.shelf.ReadAnswer.{ReadAnswer}
use Rattle.mdr_due.specs.Reads.{Files, WasRead}

-- what is due is so for the reason that there is
pub due_for : {T : Type 0} (P : T → Type 0) (Q : Status → List ℕ → Type 0) (s : Status) (text : List ℕ) (r : Result (Stage T) OutOfMemory)
    → ((s' : Status) (text' : List ℕ) → s' ≡ s → text' ≡ text → Q s' text') → IfOk r (IsDue s text) → IfOk r (StageIs P Q)
due_for P Q s text (Ok (stage.Goes x)) reason h = elim h [ ]
due_for P Q s text (Ok (stage.Ends due)) reason h = reason due.status due.text.items h.0 h.1
due_for P Q s text (Err e) reason h = tt

-- what a stage goes on with, and what it ends with
pub goes_with : {T : Type 0} (P : T → Type 0) (Q : Status → List ℕ → Type 0) (r : Result (Stage T) OutOfMemory) (st : Stage T) (x : T) → r ≡ Ok st → st ≡ stage.Goes x → IfOk r (StageIs P Q) → P x
goes_with P Q r st x e f h = subst (StageIs P Q) f (subst (λ (y : Result (Stage _) OutOfMemory). IfOk y (StageIs P Q)) e h)

pub ends_with : {T : Type 0} (P : T → Type 0) (Q : Status → List ℕ → Type 0) (r : Result (Stage T) OutOfMemory) (st : Stage T) (due : Due) → r ≡ Ok st → st ≡ stage.Ends due → IfOk r (StageIs P Q) → Q due.status due.text.items
ends_with P Q r st due e f h = subst (StageIs P Q) f (subst (λ (y : Result (Stage _) OutOfMemory). IfOk y (StageIs P Q)) e h)

-- a read, whatever it gave
pub was_read : (files : Files) (name : List ℕ) (limit : ℕ) (old new : List ShelfCall) (answer : ReadAnswer) → new ≡ and_then old (Read name limit answer) → ReadsFrom files name limit answer → WasRead files name limit old new
was_read files name limit old new answer called told = record { answer = answer; read = record { called = called; told = told } }

-- two facts about what is there, and one about what isn't
pub with_both : {A E : Type 0} (r : Result A E) (P Q R : A → Type 0) → ((x : A) → P x → Q x → R x) → IfOk r P → IfOk r Q → IfOk r R
with_both (Ok x) P Q R f p q = f x p q
with_both (Err e) P Q R f p q = tt

pub err_weaker : {A E : Type 0} (r : Result A E) (P Q : Type 0) → (P → Q) → OnErr r P → OnErr r Q
err_weaker (Ok x) P Q f p = tt
err_weaker (Err e) P Q f p = f p

pub on_err : {A E : Type 0} (r : Result A E) {P : Type 0} → P → OnErr r P
on_err (Ok x) p = tt
on_err (Err e) p = p
