-- The cells of a run, made one by one.
use Rattle.std.proofs.Common.{◌≡◌, ℕ, suc, ◌+◌, ◌-◌, ◌<◌, ◌≤◌, Bool, true, false, cond, ◌&&◌, List, [], ◌∷◌, ◌++◌, filter, refl, sym, ◌∙◌, ap, subst, arith, append_assoc}
use Rattle.std.specs.List.{list_all}
use Rattle.std.proofs.lemmas.List.{append-nil}
use Rattle.mdr_model.specs.declared.memory.Cell.{Cell}
use Rattle.mdr_model.specs.Sets.{cells_from}

-- one more
pub cell_next : (out next all : List Cell) (serial first i n : ℕ) → i < n → next ≡ out ++ record { serial = serial; index = first + i } ∷ [] → out ++ cells_from serial (first + i) (n - i) ≡ all → next ++ cells_from serial (first + (i + 1)) (n - (i + 1)) ≡ all
unfolding cells_from
cell_next out next all serial first i n h e so_far =
    let one : List Cell = record { serial = serial; index = first + i } ∷ [] in
    let rest : List Cell = cells_from serial (first + (i + 1)) (n - (i + 1)) in
    let more : n - i ≡ suc (n - (i + 1)) = omega arith in
    let after : suc (first + i) ≡ first + (i + 1) = omega arith in
    let row : cells_from serial (first + i) (n - i) ≡ one ++ rest =
    ap (λ (k : ℕ). cells_from serial (first + i) k) more
    ∙ ap (λ (j : ℕ). record { serial = serial; index = first + i } ∷ cells_from serial j (n - (i + 1))) after in
    ap (λ (xs : List Cell). xs ++ rest) e ∙ append_assoc out one rest ∙ sym (ap (λ (xs : List Cell). out ++ xs) row) ∙ so_far

-- and all of them
pub cells_all : (out : List Cell) (serial first n i : ℕ) (all : List Cell) → n ≤ i → out ++ cells_from serial (first + i) (n - i) ≡ all → out ≡ all
unfolding cells_from
cells_all out serial first n i all over so_far =
    let none : n - i ≡ 0 = omega (arith, over) in
    sym (append-nil out) ∙ sym (ap (λ (k : ℕ). out ++ cells_from serial (first + i) k) none) ∙ so_far

-- ---- the cells of a row, tested one by one

row_is : (serial first i n : ℕ) → i < n → cells_from serial (first + i) (n - i) ≡ record { serial = serial; index = first + i } ∷ cells_from serial (first + (i + 1)) (n - (i + 1))
unfolding cells_from
row_is serial first i n h =
    let more : n - i ≡ suc (n - (i + 1)) = omega arith in
    let after : suc (first + i) ≡ first + (i + 1) = omega arith in
    ap (λ (k : ℕ). cells_from serial (first + i) k) more
    ∙ ap (λ (j : ℕ). record { serial = serial; index = first + i } ∷ cells_from serial j (n - (i + 1))) after

no_row : (serial k i n : ℕ) → n ≤ i → cells_from serial k (n - i) ≡ []
unfolding cells_from
no_row serial k i n over = let none : n - i ≡ 0 = omega (arith, over) in ap (λ (m : ℕ). cells_from serial k m) none

pub row_next : (p : Cell → Bool) (serial first i n : ℕ) (all : Bool) → i < n → p (record { serial = serial; index = first + i }) ≡ true → list_all p (cells_from serial (first + i) (n - i)) ≡ all
    → list_all p (cells_from serial (first + (i + 1)) (n - (i + 1))) ≡ all
row_next p serial first i n all h e so_far =
    sym (ap (list_all p) (row_is serial first i n h) ∙ ap (λ (b : Bool). b && list_all p (cells_from serial (first + (i + 1)) (n - (i + 1)))) e) ∙ so_far

pub row_not : (p : Cell → Bool) (serial first i n : ℕ) (all : Bool) → i < n → p (record { serial = serial; index = first + i }) ≡ false → list_all p (cells_from serial (first + i) (n - i)) ≡ all → false ≡ all
row_not p serial first i n all h e so_far =
    sym (ap (list_all p) (row_is serial first i n h) ∙ ap (λ (b : Bool). b && list_all p (cells_from serial (first + (i + 1)) (n - (i + 1)))) e) ∙ so_far

pub row_over : (p : Cell → Bool) (serial first i n : ℕ) (all : Bool) → n ≤ i → list_all p (cells_from serial (first + i) (n - i)) ≡ all → true ≡ all
row_over p serial first i n all over so_far = sym (ap (list_all p) (no_row serial (first + i) i n over)) ∙ so_far

filter_cons : (p : Cell → Bool) (c : Cell) (cs : List Cell) → filter p (c ∷ cs) ≡ filter p (c ∷ []) ++ filter p cs
filter_cons p c cs = of (p c)
  where
    of : (t : Bool) → cond t (c ∷ filter p cs) (filter p cs) ≡ cond t (c ∷ []) [] ++ filter p cs
    of true = refl
    of false = refl

-- those that pass a test
pub some_next : (p : Cell → Bool) (out next all : List Cell) (serial i n : ℕ) → i < n → next ≡ out ++ filter p (record { serial = serial; index = i } ∷ []) → out ++ filter p (cells_from serial i (n - i)) ≡ all
    → next ++ filter p (cells_from serial (i + 1) (n - (i + 1))) ≡ all
some_next p out next all serial i n h e so_far =
    let one : List Cell = filter p (record { serial = serial; index = i } ∷ []) in
    let rest : List Cell = filter p (cells_from serial (i + 1) (n - (i + 1))) in
    let row : cells_from serial i (n - i) ≡ record { serial = serial; index = i } ∷ cells_from serial (i + 1) (n - (i + 1)) =
    (let none : 0 + i ≡ i = omega arith in let none' : 0 + (i + 1) ≡ i + 1 = omega arith in
    subst (λ (k : ℕ). cells_from serial k (n - i) ≡ record { serial = serial; index = k } ∷ cells_from serial (i + 1) (n - (i + 1))) none
    (subst (λ (k : ℕ). cells_from serial (0 + i) (n - i) ≡ record { serial = serial; index = 0 + i } ∷ cells_from serial k (n - (i + 1))) none' (row_is serial 0 i n h))) in
    ap (λ (xs : List Cell). xs ++ rest) e ∙ append_assoc out one rest ∙ sym (ap (λ (xs : List Cell). out ++ xs) (ap (filter p) row ∙ filter_cons p (record { serial = serial; index = i }) (cells_from serial (i + 1) (n - (i + 1))))) ∙ so_far

pub some_all : (p : Cell → Bool) (out all : List Cell) (serial i n : ℕ) → n ≤ i → out ++ filter p (cells_from serial i (n - i)) ≡ all → out ≡ all
some_all p out all serial i n over so_far = sym (append-nil out) ∙ sym (ap (λ (xs : List Cell). out ++ filter p xs) (no_row serial i i n over)) ∙ so_far
