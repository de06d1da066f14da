-- Keys of cells that no struct is around.
use Rattle.std.proofs.Common.{◌≡◌, ℕ, zero, suc, ◌+◌, ◌<◌, ◌≤◌, Bool, true, false, cond, List, [], ◌∷◌, ◌++◌, drop, get_or, length, replicate, set, take, refl, sym, ◌∙◌, ap, arith}
use Rattle.std.specs.Prelude.{◌||◌, ◌==◌}
use Rattle.std.specs.List.{list_any}
use Rattle.std.proofs.lemmas.Bool.{both_ways, eqb-true, eq-eqb}
use Rattle.std.proofs.lemmas.List.{at_drop_all, at_drop_more}
use Rattle.mdr_access.specs.KeyOrder.{keys, same_key}
use Rattle.mdr_core.specs.declared.plan.Key.{Key}
use Rattle.mdr_paths.specs.Paths.{is_in}
use Rattle.mdr_reach.specs.Keys.{is_set}

-- ---- flags

none_set : (n : ℕ) → is_set [] n ≡ false
none_set zero = refl
none_set (suc n) = refl

zeros : (m n : ℕ) → is_set (replicate m false) n ≡ false
zeros zero n = none_set n
zeros (suc m) zero = refl
zeros (suc m) (suc n) = zeros m n

-- a list that is filled up
pub filled : (xs : List Bool) (k m n : ℕ) → length xs ≤ k → is_set (take k xs ++ replicate m false) n ≡ is_set xs n
filled [] zero m n l = zeros m n ∙ sym (none_set n)
filled [] (suc k) m n l = zeros m n ∙ sym (none_set n)
filled (x ∷ xs) zero m n l = absurd (omega (arith, l))
filled (x ∷ xs) (suc k) m zero l = refl
filled (x ∷ xs) (suc k) m (suc n) l = filled xs k m n (omega (arith, l))

set_here : (xs : List Bool) (i : ℕ) (v : Bool) → i < length xs → is_set (set xs i v) i ≡ v
set_here [] i v l = absurd (omega (arith, l))
set_here (x ∷ xs) zero v l = refl
set_here (x ∷ xs) (suc i) v l = set_here xs i v (omega (arith, l))

set_elsewhere : (xs : List Bool) (i : ℕ) (v : Bool) (n : ℕ) → (n ≡ i → ⊥) → is_set (set xs i v) n ≡ is_set xs n
set_elsewhere [] i v n apart = refl
set_elsewhere (x ∷ xs) zero v zero apart = absurd (apart refl)
set_elsewhere (x ∷ xs) zero v (suc n) apart = refl
set_elsewhere (x ∷ xs) (suc i) v zero apart = refl
set_elsewhere (x ∷ xs) (suc i) v (suc n) apart = set_elsewhere xs i v n (λ e. apart (ap suc e))

flag_put : (xs : List Bool) (i : ℕ) (v : Bool) (n : ℕ) → i < length xs → is_set (set xs i v) n ≡ cond (n == i) v (is_set xs n)
flag_put xs i v n l = of (n == i) refl
  where
    of : (t : Bool) → (n == i) ≡ t → is_set (set xs i v) n ≡ cond t v (is_set xs n)
    of true e = ap (is_set (set xs i v)) (eqb-true n i e) ∙ set_here xs i v l
    of false e = set_elsewhere xs i v n (λ s. both_ways _ e (eq-eqb n i s))

-- a flag that is set
pub flag_set : (xs : List Bool) (i n : ℕ) → i < length xs → is_set (set xs i true) n ≡ (n == i || is_set xs n)
flag_set xs i n l = flag_put xs i true n l ∙ of (n == i)
  where
    of : (t : Bool) → cond t true (is_set xs n) ≡ (t || is_set xs n)
    of true = refl
    of false = refl

-- ---- keys

-- what is set and what is left are all keys
abbrev pub IsLeft : List Bool → (make : ℕ → Key) → (left all : List Key) → Type 0
IsLeft table make left all = (n : ℕ) → (is_set table n || is_in keys left (make n)) ≡ is_in keys all (make n)

pub left_first : (make : ℕ → Key) (table : List Bool) (all : List Key) → table ≡ [] → IsLeft table make all all
left_first make table all e n = ap (λ b. b || is_in keys all (make n)) (ap (λ xs. is_set xs n) e ∙ none_set n)

either : (a b c : Bool) → ((a || b) || c) ≡ (b || (a || c))
either true true c = refl
either true false c = refl
either false true c = refl
either false false c = refl

pub left_more : (make : ℕ → Key) (was now : List Bool) (all : List Key) (i : ℕ) (k d : Key) → i < length all → k ≡ get_or all i d → ((n : ℕ) → is_set now n ≡ (same_key (make n) k || is_set was n)) → IsLeft was make (drop i all) all → IsLeft now make (drop (i + 1) all) all
unfolding is_in
left_more make was now all i k d l e set had n =
    ap (λ b. b || list_any (same_key (make n)) (drop (i + 1) all)) (set n) ∙ either (same_key (make n) k) (is_set was n) (list_any (same_key (make n)) (drop (i + 1) all))
    ∙ ap (λ x. is_set was n || (same_key (make n) x || list_any (same_key (make n)) (drop (i + 1) all))) e
    ∙ sym (at_drop_more (λ ks. is_set was n || list_any (same_key (make n)) ks) all i d l) ∙ had n

or_false : (b : Bool) → b ≡ (b || false)
or_false true = refl
or_false false = refl

pub left_none : (make : ℕ → Key) (table : List Bool) (all : List Key) (i : ℕ) → length all ≤ i → IsLeft table make (drop i all) all → (n : ℕ) → is_set table n ≡ is_in keys all (make n)
unfolding is_in
left_none make table all i l had n = or_false (is_set table n) ∙ sym (at_drop_all (λ ks. is_set table n || list_any (same_key (make n)) ks) all i l) ∙ had n
