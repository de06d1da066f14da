-- The first fault of runs, tested one by one.
use Rattle.std.proofs.Common.{◌≡◌, ℕ, suc, ◌+◌, ◌<◌, ◌≤◌, List, ◌∷◌, true, false, Option, Some, None, length, drop, get_or, refl, sym, ap, ◌∙◌, arith}
use Rattle.std.proofs.lemmas.List.{at_drop_more, at_drop_all}
use Rattle.std.specs.Prelude.{is_some}
use Rattle.mdr_model.specs.declared.memory.Cell.{Cell}
use Rattle.mdr_model.specs.declared.message.Run.{Run}
use Rattle.mdr_model.specs.declared.message.SetRun.{SetRun}
use Rattle.mdr_model.specs.declared.message.Fault.{Fault}
use Rattle.mdr_model.specs.Faults.{or_else, set_run_of}
use Rattle.mdr_split.specs.Fits.{Places}
use Rattle.mdr_split.specs.Legal.{run_fault, runs_fault}

run_and_rest : (p : Places) (view : List Cell) (before : Option SetRun) (runs : List Run) (i : ℕ) (r : Run) → i < length runs → r ≡ get_or runs i r
    → runs_fault p view before i (drop i runs) ≡ or_else (run_fault p view before i r) (runs_fault p view (Some (set_run_of r)) (i + 1) (drop (i + 1) runs))
unfolding runs_fault
run_and_rest p view before runs i r inside is =
    let after : suc i ≡ i + 1 = omega arith in
    at_drop_more (λ (rs : List Run). runs_fault p view before i rs) runs i r inside
    ∙ sym (ap (λ (x : Run). runs_fault p view before i (x ∷ drop (i + 1) runs)) is)
    ∙ ap (λ (k : ℕ). or_else (run_fault p view before i r) (runs_fault p view (Some (set_run_of r)) k (drop (i + 1) runs))) after

-- a run with a fault ends the search, and one without lets it go on
pub ends_here : (p : Places) (view : List Cell) (before : Option SetRun) (runs : List Run) (i : ℕ) (r : Run) (found all : Option Fault) → i < length runs → r ≡ get_or runs i r
    → found ≡ run_fault p view before i r → is_some found ≡ true → runs_fault p view before i (drop i runs) ≡ all → found ≡ all
ends_here p view before runs i r found all inside is gives has so_far =
    of found has
    ∙ ap (λ (f : Option Fault). or_else f (runs_fault p view (Some (set_run_of r)) (i + 1) (drop (i + 1) runs))) gives
    ∙ sym (run_and_rest p view before runs i r inside is) ∙ so_far
  where
    of : (f : Option Fault) → is_some f ≡ true → f ≡ or_else f (runs_fault p view (Some (set_run_of r)) (i + 1) (drop (i + 1) runs))
    of (Some f) e = refl
    of None e = absurd (Prim.cc)

pub goes_on_behind : (p : Places) (view : List Cell) (before : Option SetRun) (runs : List Run) (i : ℕ) (r : Run) (behind : SetRun) (found all : Option Fault) → i < length runs → r ≡ get_or runs i r
    → found ≡ run_fault p view before i r → is_some found ≡ false → behind ≡ set_run_of r → runs_fault p view before i (drop i runs) ≡ all
    → runs_fault p view (Some behind) (i + 1) (drop (i + 1) runs) ≡ all
goes_on_behind p view before runs i r behind found all inside is gives has stands so_far =
    let rest : SetRun → Option Fault = λ (s : SetRun). runs_fault p view (Some s) (i + 1) (drop (i + 1) runs) in
    ap rest stands ∙ of found has
    ∙ ap (λ (f : Option Fault). or_else f (rest (set_run_of r))) gives
    ∙ sym (run_and_rest p view before runs i r inside is) ∙ so_far
  where
    of : (f : Option Fault) → is_some f ≡ false → runs_fault p view (Some (set_run_of r)) (i + 1) (drop (i + 1) runs) ≡ or_else f (runs_fault p view (Some (set_run_of r)) (i + 1) (drop (i + 1) runs))
    of (Some f) e = absurd (Prim.cc)
    of None e = refl

pub none_is_left : (p : Places) (view : List Cell) (before : Option SetRun) (runs : List Run) (i : ℕ) (all : Option Fault) → length runs ≤ i → runs_fault p view before i (drop i runs) ≡ all → None ≡ all
unfolding runs_fault
none_is_left p view before runs i all over so_far = sym (at_drop_all (λ (rs : List Run). runs_fault p view before i rs) runs i over) ∙ so_far
