-- Storing one run after another.
use Rattle.std.proofs.Common.{◌≡◌, ℕ, ◌+◌, ◌<◌, ◌≤◌, List, [], ◌∷◌, ◌++◌, length, get_or, drop, refl, sym, ap, ◌∙◌}
use Rattle.std.proofs.lemmas.List.{at_drop_more, at_drop_all}
use Rattle.mdr_meaning.specs.declared.wire.Wire.{Wire}
use Rattle.mdr_model.specs.declared.message.Run.{Run}
use Rattle.mdr_model.specs.Memory.{Memory, put}
use Rattle.mdr_model.specs.Copies.{CellValue, numbered, values_of_runs, put_all, put_runs}

put_all-append : (xs ys : List CellValue) (m : Memory) → put_all (xs ++ ys) m ≡ put_all ys (put_all xs m)
unfolding put_all
put_all-append [] ys m = refl
put_all-append (x ∷ xs) ys m = put_all-append xs ys (put m x.cell x.value)

pub put_runs_cons : (r : Run) (rs : List Run) (m : Memory) → put_runs (r ∷ rs) m ≡ put_runs rs (put_all (numbered r.serial r.first r.values) m)
unfolding put_runs values_of_runs
put_runs_cons r rs m = put_all-append (numbered r.serial r.first r.values) (values_of_runs rs) m

pub put_runs_none : (m : Memory) → put_runs [] m ≡ m
unfolding put_runs values_of_runs put_all
put_runs_none m = refl

-- one step of storing, from a run of a list on
pub stores_next : (runs : List Run) (i : ℕ) (r : Run) (values : List Wire) (m next all : Memory) → i < length runs → r ≡ get_or runs i r → values ≡ r.values → next ≡ put_all (numbered r.serial r.first values) m → put_runs (drop i runs) m ≡ all → put_runs (drop (i + 1) runs) next ≡ all
stores_next runs i r values m next all inside is lent made so_far =
    let rest : List Run = drop (i + 1) runs in
    ap (λ (x : Memory). put_runs rest x) made
    ∙ ap (λ (vs : List Wire). put_runs rest (put_all (numbered r.serial r.first vs) m)) lent
    ∙ sym (put_runs_cons r rest m)
    ∙ ap (λ (x : Run). put_runs (x ∷ rest) m) is
    ∙ sym (at_drop_more (λ (rs : List Run). put_runs rs m) runs i r inside)
    ∙ so_far

-- and at the end of the list
pub stores_all : (runs : List Run) (i : ℕ) (m all : Memory) → length runs ≤ i → put_runs (drop i runs) m ≡ all → m ≡ all
stores_all runs i m all over so_far = sym (put_runs_none m) ∙ sym (at_drop_all (λ (rs : List Run). put_runs rs m) runs i over) ∙ so_far
