-- The punctuation that is found is the longest.
use Rattle.std.proofs.Common.{◌≡◌, ℕ, Bool, true, false, ◌≤◌, List, [], ◌∷◌, length, refl, sym, subst, ◌∙◌, arith}
use Rattle.std.specs.Prelude.{◌&&◌, nat_le, nat_eq}
use Rattle.std.specs.List.{AllByRecursion, starts_with}
use Rattle.std.proofs.lemmas.Bool.{leb-true, false≢true}
use Rattle.mdr_syntax.specs.Words.{punctuation, front_len, punctuation_len}

-- none is longer than the one before it
longest_first : ℕ → List (List ℕ) → Bool
longest_first most [] = true
longest_first most (t ∷ ts) = nat_le (length t) most && longest_first (length t) ts

both : (a b : Bool) → (a && b) ≡ true → (a ≡ true) × (b ≡ true)
both true b e = (refl, e)
both false b e = absurd cc

each : {X : Type 0} (P Q : X → Type 0) (xs : List X) → ((x : X) → P x → Q x) → AllByRecursion P xs → AllByRecursion Q xs
each P Q [] f h = tt
each P Q (x ∷ xs) f h = (f x h.0, each P Q xs f h.1)

bounded : (most : ℕ) (ts : List (List ℕ)) → longest_first most ts ≡ true → AllByRecursion (λ t. length t ≤ most) ts
unfolding longest_first
bounded most [] e = tt
bounded most (t ∷ ts) e =
    let h = both (nat_le (length t) most) (longest_first (length t) ts) e in
    let first : length t ≤ most = leb-true (length t) most h.0 in
    (first, each (λ u. length u ≤ length t) (λ u. length u ≤ most) ts (λ u k. omega (arith, first, k)) (bounded (length t) ts h.1))

abbrev IsNoLonger : List ℕ → ℕ → List ℕ → Type 0
IsNoLonger bytes n t = starts_with nat_eq bytes t ≡ true → length t ≤ n

longest : (bytes : List ℕ) (most : ℕ) (ts : List (List ℕ)) → longest_first most ts ≡ true → AllByRecursion (IsNoLonger bytes (front_len ts bytes)) ts
unfolding longest_first
longest bytes most [] e = tt
longest bytes most (t ∷ ts) e = by (starts_with nat_eq bytes t) refl (longest bytes (length t) ts rest)
  where
    rest : longest_first (length t) ts ≡ true
    rest = (both (nat_le (length t) most) (longest_first (length t) ts) e).1

    by : (b : Bool) → starts_with nat_eq bytes t ≡ b → AllByRecursion (IsNoLonger bytes (front_len ts bytes)) ts → AllByRecursion (IsNoLonger bytes (front_len (t ∷ ts) bytes)) (t ∷ ts)
    by true s h =
        let found : front_len (t ∷ ts) bytes ≡ length t = rw s refl in
        subst (λ (n : ℕ). AllByRecursion (IsNoLonger bytes n) (t ∷ ts)) (sym found) (λ k. omega arith, each (λ u. length u ≤ length t) (IsNoLonger bytes (length t)) ts (λ u le k. le) (bounded (length t) ts rest))
    by false s h =
        let found : front_len (t ∷ ts) bytes ≡ front_len ts bytes = rw s refl in
        subst (λ (n : ℕ). AllByRecursion (IsNoLonger bytes n) (t ∷ ts)) (sym found) (λ k. absurd (false≢true (sym s ∙ k)), h)

sorted : longest_first 3 punctuation ≡ true
unfolding punctuation longest_first
sorted = refl

pub is_longest : (bytes : List ℕ) → AllByRecursion (IsNoLonger bytes (punctuation_len bytes)) punctuation
unfolding punctuation_len
is_longest bytes = longest bytes 3 punctuation sorted
