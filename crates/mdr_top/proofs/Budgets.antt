-- The number that a word says.
use Rattle.std.proofs.Common.{◌≡◌, ◌≢◌, ℕ, ◌<◌, ◌≤◌, ◌^◌, Bool, true, false, ◌&&◌, nat_le, List, [], ◌∷◌, length, get_or, Option, None, Result, Ok, Err, refl, subst, arith}
use Rattle.std.specs.Result.{OkIff}
use Rattle.std.specs.Str.{all_ascii_digits}
use Rattle.std.specs.Str.Parse.{digits_value, ParsesUnsigned}
use Rattle.std.proofs.lemmas.Bool.{leb-true}
use Rattle.std.proofs.lemmas.Str.Parse.{IsNumeralModel, numerals_by_value, tells_all_ascii_digits, parse_plain}
use Rattle.mdr_top.specs.Budgets.{when, begins_number, within, number_within}

own : IsNumeralModel (λ ds. all_ascii_digits ds ≡ true) (digits_value 10)
own = numerals_by_value (λ ds. all_ascii_digits ds ≡ true) tells_all_ascii_digits

-- a plus is no digit
no_plus : (word : List ℕ) → begins_number word ≡ true → get_or word 0 0 ≢ 43
no_plus [] begins = absurd cc
no_plus (b ∷ bytes) begins = λ is. never (subst (λ (x : ℕ). (nat_le 49 x && nat_le x 57) ≡ true) is begins)
  where
    never : false ≡ true → ⊥
    never q = cc

positive : (word : List ℕ) → begins_number word ≡ true → 0 < length word
positive [] begins = absurd cc
positive (b ∷ bytes) begins = omega arith

pub parsed : {E : Type 0} (most : ℕ) (word : List ℕ) (r : Result ℕ E) → most < 2 ^ 64 → begins_number word ≡ true → ParsesUnsigned 64 10 word r → within most r ≡ number_within most word
unfolding number_within
parsed {E} most word r small begins h = of r (parse_plain own 64 word r h (no_plus word begins))
  where
    of : (s : Result ℕ E) → OkIff s ((all_ascii_digits word ≡ true) × (0 < length word) × (digits_value 10 word < 2 ^ 64)) (digits_value 10 word)
        → within most s ≡ when (begins_number word && all_ascii_digits word && nat_le (digits_value 10 word) most) (digits_value 10 word)
    of (Ok n) k =
        let digits : all_ascii_digits word ≡ true = k.0.0 in
        let same : n ≡ digits_value 10 word = k.1 in
        rw (begins, digits, same) refl
    of (Err e) k = by (all_ascii_digits word) (nat_le (digits_value 10 word) most) refl refl
      where
        by : (digits fits : Bool) → all_ascii_digits word ≡ digits → nat_le (digits_value 10 word) most ≡ fits
            → ◌≡◌ {A = Option ℕ} None (when (begins_number word && all_ascii_digits word && nat_le (digits_value 10 word) most) (digits_value 10 word))
        by false fits d l = rw (begins, d) refl
        by true false d l = rw (begins, d, l) refl
        by true true d l =
            let few : digits_value 10 word ≤ most = leb-true (digits_value 10 word) most l in
            absurd (k (d, positive word begins, omega (arith, few, small)))

-- a word that begins otherwise is none
pub unparsed : (most : ℕ) (word : List ℕ) → begins_number word ≡ false → None ≡ number_within most word
unfolding number_within
unparsed most word begins = rw begins refl
