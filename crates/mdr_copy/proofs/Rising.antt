-- Runs of cells that rise, tested one by one.
use Rattle.std.proofs.Common.{◌≡◌, ℕ, ◌+◌, ◌<◌, ◌≤◌, List, ◌∷◌, Bool, true, false, ◌&&◌, Option, Some, length, drop, get_or, sym, ap, ◌∙◌}
use Rattle.std.proofs.lemmas.List.{at_drop_more, at_drop_all}
use Rattle.mdr_model.specs.declared.message.SetRun.{SetRun}
use Rattle.mdr_model.specs.Sets.{follows_maybe, rises_after}

run_and_rest : (before : Option SetRun) (runs : List SetRun) (i : ℕ) (r d : SetRun) → i < length runs → r ≡ get_or runs i d
    → rises_after before (drop i runs) ≡ (follows_maybe before r && rises_after (Some r) (drop (i + 1) runs))
unfolding rises_after
run_and_rest before runs i r d inside is =
    at_drop_more (λ (rs : List SetRun). rises_after before rs) runs i d inside
    ∙ sym (ap (λ (x : SetRun). rises_after before (x ∷ drop (i + 1) runs)) is)

pub rises_on : (before : Option SetRun) (runs : List SetRun) (i : ℕ) (r d e : SetRun) (all : Bool) → i < length runs → r ≡ get_or runs i d → e ≡ r → follows_maybe before e ≡ true → rises_after before (drop i runs) ≡ all → rises_after (Some e) (drop (i + 1) runs) ≡ all
rises_on before runs i r d e all inside is same follows so_far =
    let rest : SetRun → Bool = λ (x : SetRun). rises_after (Some x) (drop (i + 1) runs) in
    ap rest same
    ∙ ap (λ (b : Bool). b && rest r) (sym follows ∙ ap (λ (x : SetRun). follows_maybe before x) same)
    ∙ sym (run_and_rest before runs i r d inside is) ∙ so_far

pub rises_no_more : (before : Option SetRun) (runs : List SetRun) (i : ℕ) (r d e : SetRun) (all : Bool) → i < length runs → r ≡ get_or runs i d → e ≡ r → follows_maybe before e ≡ false → rises_after before (drop i runs) ≡ all → false ≡ all
rises_no_more before runs i r d e all inside is same follows so_far =
    ap (λ (b : Bool). b && rises_after (Some r) (drop (i + 1) runs)) (sym follows ∙ ap (λ (x : SetRun). follows_maybe before x) same)
    ∙ sym (run_and_rest before runs i r d inside is) ∙ so_far

pub rose : (before : Option SetRun) (runs : List SetRun) (i : ℕ) (all : Bool) → length runs ≤ i → rises_after before (drop i runs) ≡ all → true ≡ all
unfolding rises_after
rose before runs i all over so_far = sym (at_drop_all (λ (rs : List SetRun). rises_after before rs) runs i over) ∙ so_far
