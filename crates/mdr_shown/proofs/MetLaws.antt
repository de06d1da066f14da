-- The number of a block among those that were met.
use Rattle.std.proofs.Common.{◌≡◌, ℕ, zero, suc, ◌+◌, ◌<◌, ◌≤◌, Bool, true, false, not, ◌||◌, nat_eq, nat_lt, cond, List, [], ◌∷◌, ◌++◌, length, Option, Some, None, refl, sym, ap, ◌∙◌, eqb-true, lt-ltb, le-ltb, ltb-true, ltb-false, ne_eqb, arith}
use Rattle.std.specs.Prelude.{is_some, unwrap_or}
use Rattle.std.specs.List.{position, position_or_len}
use Rattle.std.specs.Option.{option_map}
use Rattle.std.proofs.lemmas.Cmp.{nat_eq_equiv}
use Rattle.std.proofs.lemmas.List.Folds.{list_any-append}
use Rattle.mdr_core.specs.Layout.{chosen}
use Rattle.mdr_plain.specs.Outcome.{first_serials, is_among, object_number, with_block}
use Rattle.mdr_shown.specs.Met.{number_in}

-- one place further
abbrev next : Option ℕ → Option ℕ
next o = option_map (λ i. i + 1) o

-- ---- the first place, one item at a time

abbrev is : ℕ → ℕ → Bool
is serial n = nat_eq n serial

same_test : (i n : ℕ) (t : Bool) → nat_lt i n ≡ t → nat_lt (1 + i) (suc n) ≡ t
same_test i n true e = let h : i < n = ltb-true i n e in lt-ltb (1 + i) (suc n) (omega (arith, h))
same_test i n false e = let h : n ≤ i = ltb-false i n e in le-ltb (1 + i) (suc n) (omega (arith, h))

place_by : (i n : ℕ) (t : Bool) → nat_lt i n ≡ t → cond (nat_lt (1 + i) (suc n)) (Some (1 + i)) None ≡ next (cond t (Some i) None)
place_by i n true e = ap (λ b. cond b (Some (1 + i)) None) (same_test i n true e) ∙ ap Some (let more : 1 + i ≡ i + 1 = omega arith in more)
place_by i n false e = ap (λ b. cond b (Some (1 + i)) None) (same_test i n false e)

position_by : (serial x : ℕ) (xs : List ℕ) (t : Bool) → cond (nat_lt (cond (not t) (1 + position_or_len (is serial) xs) 0) (suc (length xs))) (Some (cond (not t) (1 + position_or_len (is serial) xs) 0)) None ≡ cond t (Some 0) (next (position (is serial) xs))
position_by serial x xs true = ap (λ b. cond b (Some 0) None) (lt-ltb 0 (suc (length xs)) (omega arith))
position_by serial x xs false = place_by (position_or_len (is serial) xs) (length xs) (nat_lt (position_or_len (is serial) xs) (length xs)) refl

number_by : (t : Bool) (o : Option ℕ) → next (cond t (Some 0) (next o)) ≡ cond t (Some 1) (next (next o))
number_by true o = refl
number_by false o = refl

-- the number in a list that has one block more in front
number_front : (serial x : ℕ) (xs : List ℕ) → number_in (x ∷ xs) serial ≡ cond (nat_eq x serial) (Some 1) (next (number_in xs serial))
number_front serial x xs = ap next (position_by serial x xs (nat_eq x serial)) ∙ number_by (nat_eq x serial) (position (is serial) xs)

-- ---- a block was met where it has a number

some_by : (t : Bool) (o : Option ℕ) → is_some (cond t (Some 1) (next o)) ≡ (t || is_some o)
some_by true o = refl
some_by false None = refl
some_by false (Some i) = refl

pub among_is : (serials : List ℕ) (serial : ℕ) → is_some (number_in serials serial) ≡ is_among serials serial
among_is [] serial = refl
among_is (x ∷ xs) serial =
    ap is_some (number_front serial x xs)
    ∙ some_by (nat_eq x serial) (number_in xs serial)
    ∙ ap (λ t. t || is_some (number_in xs serial)) (nat_eq_equiv.symm x serial)
    ∙ ap (λ t. nat_eq serial x || t) (among_is xs serial)

-- ---- a block more behind the others

or_parts : (a b : Bool) → (a || b) ≡ false → (a ≡ false) × (b ≡ false)
or_parts false b e = (refl, e)
or_parts true b e = absurd cc

-- the block in front is another than the one behind
swapped : (first last : Bool) (n : ℕ) (o : Option ℕ) → (last ≡ true → first ≡ false) → cond first (Some 1) (next (cond last (Some (n + 1)) o)) ≡ cond last (Some (suc n + 1)) (cond first (Some 1) (next o))
swapped true true n o other = absurd (let e : true ≡ false = other refl in cc)
swapped true false n o other = refl
swapped false true n o other = ap Some (let e : n + 1 + 1 ≡ suc n + 1 = omega arith in e)
swapped false false n o other = refl

pub number_behind : (serials : List ℕ) (serial asked : ℕ) → is_among serials serial ≡ false → number_in (serials ++ serial ∷ []) asked ≡ cond (nat_eq serial asked) (Some (length serials + 1)) (number_in serials asked)
number_behind [] serial asked e = number_front asked serial []
number_behind (x ∷ xs) serial asked e =
    number_front asked x (xs ++ serial ∷ [])
    ∙ ap (λ o. cond (nat_eq x asked) (Some 1) (next o)) (number_behind xs serial asked parts.1)
    ∙ swapped (nat_eq x asked) (nat_eq serial asked) (length xs) (number_in xs asked) other
    ∙ sym (ap (cond (nat_eq serial asked) (Some (suc (length xs) + 1))) (number_front asked x xs)) where
      parts : (nat_eq serial x ≡ false) × (is_among xs serial ≡ false)
      parts = or_parts (nat_eq serial x) (is_among xs serial) e

      other : nat_eq serial asked ≡ true → nat_eq x asked ≡ false
      other same = ap (nat_eq x) (sym (eqb-true serial asked same)) ∙ nat_eq_equiv.symm x serial ∙ parts.0

-- ---- an object's number

number_from : (o : Option ℕ) (n : ℕ) → next o ≡ Some n → n ≡ unwrap_or o 0 + 1
number_from None n e = absurd cc
number_from (Some i) n e = cc

pub number_is : (serials : List ℕ) (serial n : ℕ) → number_in serials serial ≡ Some n → n ≡ object_number serials serial
number_is serials serial n e = number_from (position (is serial) serials) n e

none_from : (o : Option ℕ) → next o ≡ None → 1 ≡ unwrap_or o 0 + 1
none_from None e = refl
none_from (Some i) e = absurd cc

pub no_number_is : (serials : List ℕ) (serial : ℕ) → number_in serials serial ≡ None → 1 ≡ object_number serials serial
no_number_is serials serial e = none_from (position (is serial) serials) e

-- ---- with a block that was met, or wasn't

pub met_before : (serials : List ℕ) (serial : ℕ) → is_among serials serial ≡ true → serials ≡ with_block serials serial
met_before serials serial e = sym (ap (λ t. chosen t serials (serials ++ serial ∷ [])) e)

pub met_now : (serials : List ℕ) (serial : ℕ) → is_among serials serial ≡ false → serials ++ serial ∷ [] ≡ with_block serials serial
met_now serials serial e = sym (ap (λ t. chosen t serials (serials ++ serial ∷ [])) e)

-- ---- the globals

differs : (g n : ℕ) → g < n → nat_eq n g ≡ false
differs g n less = ne_eqb n g (λ e. absurd (omega (arith, less, e)))

none_of : (g n : ℕ) → g ≤ n → is_among (first_serials g) n ≡ false
none_of zero n few = refl
none_of (suc g) n few =
    list_any-append (nat_eq n) (first_serials g) (g ∷ [])
    ∙ ap (λ t. t || (nat_eq n g || false)) (none_of g n (omega (arith, few)))
    ∙ ap (λ t. t || false) (differs g n (omega (arith, few)))

pub global_is_new : (g : ℕ) → is_among (first_serials g) g ≡ false
global_is_new g = none_of g g (omega arith)

pub one_global_more : (g : ℕ) → first_serials g ++ g ∷ [] ≡ first_serials (g + 1)
one_global_more g = ap first_serials (let e : suc g ≡ g + 1 = omega arith in e)
