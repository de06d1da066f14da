-- Where the walks over two lists end.
use Rattle.std.proofs.Common.{◌≡◌, ℕ, suc, ◌≤◌, ◌⊎◌, inl, inr, min, ◌&&◌, nat_lt, Bool, true, false, List, [], ◌∷◌, length, drop, refl, sym, ap, ◌∙◌, subst, arith}
use Rattle.std.specs.Str.{bytes_eq}
use Rattle.std.proofs.lemmas.List.{at_drop_all}
use Rattle.std.proofs.Math.Nat.{min-eq_left, min-eq_right}
use Rattle.mdr_core.specs.declared.plan.Half.{Half}
use Rattle.mdr_core.specs.declared.plan.Key.{Key}
use Rattle.mdr_core.specs.declared.types.Ty.{Ty}
use Rattle.mdr_core.specs.declared.program.Func.{Func}
use Rattle.mdr_program.specs.declared.parts.Parts.{Parts}
use Rattle.mdr_check_half.specs.Suiting.{are_named, each_function, names_something, names_no_lock, each_key}

false_behind : (b c : Bool) → c ≡ false → (b && c) ≡ false
false_behind true c e = e
false_behind false c e = refl

unlike : (names : List (List ℕ)) (fs : List Func) → (length names ≡ length fs → ⊥) → are_named names fs ≡ false
unlike [] [] h = absurd (h refl)
unlike [] (f ∷ fs) h = refl
unlike (name ∷ names) [] h = refl
unlike (name ∷ names) (f ∷ fs) h = false_behind (bytes_eq name f.name) _ (unlike names fs (λ e. h (ap suc e)))

pub unlike_lengths : (names : List (List ℕ)) (fs : List Func) → (length names ≡ length fs → ⊥) → false ≡ are_named names fs
unlike_lengths names fs h = sym (unlike names fs h)

-- ---- functions and their halves

-- one of two lists is over
over : (m n i : ℕ) → min m n ≤ i → (m ≤ i) ⊎ (n ≤ i)
over m n i h = by (nat_lt n m) refl
  where
    by : (b : Bool) → nat_lt n m ≡ b → (m ≤ i) ⊎ (n ≤ i)
    by true e = inr (let le : n ≤ m = grind (arith, e) in subst (λ k. k ≤ i) (min-eq_right le) h)
    by false e = inl (let le : m ≤ n = grind (arith, e) in subst (λ k. k ≤ i) (min-eq_left le) h)

each_none : (test : Half → Func → Bool) (hs : List Half) → each_function test hs [] ≡ true
each_none test [] = refl
each_none test (h ∷ hs) = refl

walked : (test : Half → Func → Bool) (hs : List Half) (fs : List Func) (i : ℕ) → (length hs ≤ i) ⊎ (length fs ≤ i) → each_function test (drop i hs) (drop i fs) ≡ true
walked test hs fs i (inl past) = at_drop_all (λ (xs : List Half). each_function test xs (drop i fs)) hs i past
walked test hs fs i (inr past) = at_drop_all (λ (ys : List Func). each_function test (drop i hs) ys) fs i past ∙ each_none test (drop i hs)

pub walk_end : (test : Half → Func → Bool) (hs : List Half) (fs : List Func) (i : ℕ) (all : Bool) → min (length hs) (length fs) ≤ i → each_function test (drop i hs) (drop i fs) ≡ all → true ≡ all
walk_end test hs fs i all h e = sym (walked test hs fs i (over (length hs) (length fs) i h)) ∙ e

-- ---- two tests of keys

both_true : (a b : Bool) → a ≡ true → b ≡ (a && b)
both_true true b e = refl
both_true false b e = absurd cc

pub keys_end : (types others : List Ty) (keys lists : List (List Key)) (ps : Parts) (a b : Bool) → types ≡ others → keys ≡ lists
    → a ≡ each_key (λ k. names_something types ps k) keys → a ≡ true → b ≡ each_key (λ k. names_no_lock types ps k) keys
    → b ≡ (each_key (λ k. names_something others ps k) lists && each_key (λ k. names_no_lock others ps k) lists)
keys_end types others keys lists ps a b e f p q r =
    let first : each_key (λ k. names_something others ps k) lists ≡ true = (λ i. each_key (λ k. names_something (sym e i) ps k) (sym f i)) ∙ sym p ∙ q in
    let second : b ≡ each_key (λ k. names_no_lock others ps k) lists = r ∙ (λ i. each_key (λ k. names_no_lock (e i) ps k) (f i)) in
    second ∙ both_true (each_key (λ k. names_something others ps k) lists) (each_key (λ k. names_no_lock others ps k) lists) first
