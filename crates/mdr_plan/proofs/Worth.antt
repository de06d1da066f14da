-- What digits are worth, and which digits a number has.
use Rattle.std.proofs.Common.{◌≡◌, ℕ, zero, suc, Bool, true, false, ltb, Some, None, ◌+◌, ◌-◌, ◌*◌, ◌^◌, ◌<◌, ◌≤◌, ◌==◌, ◌&&◌, not, cond, List, [], ◌∷◌, length, get_or, drop, refl, sym, ap, subst, ◌∙◌, arith, rules, add-one, drop-cons, decimal}
use Rattle.std.specs.List.{list_all}
use Rattle.std.specs.Char.{is_ascii_digit}
use Rattle.std.specs.Str.{all_ascii_digits}
use Rattle.std.proofs.lemmas.Bool.{le-ltb, lt-ltb}
use Rattle.std.proofs.lemmas.Bool.Decides.{Decides-eqb, Decides-ltb}
use Rattle.std.proofs.lemmas.List.{drop_all}
use Rattle.std.proofs.lemmas.Str.Parse.{IsNumeralModel, numerals_by_fold, tells_all_ascii_digits}
use Rattle.std.proofs.lemmas.Fmt.{digits_decimal, digits_value-decimal, decimal-digits_value, decimal_digit, first_decimal}
use Rattle.mdr_plan.specs.Numbers.{worth_after, value_of, is_canonical, is_number, number_of}

pub worth_after-front : (front : ℕ) (bs : List ℕ) → front ≤ worth_after front bs
worth_after-front front [] = omega arith
worth_after-front front (b ∷ bs) =
    let more : front * 10 + (b - 48) ≤ worth_after (front * 10 + (b - 48)) bs = worth_after-front (front * 10 + (b - 48)) bs in
    omega (arith, more)

pub worth_after-step : (front i : ℕ) (bs : List ℕ) → i < length bs → worth_after front (drop i bs) ≡ worth_after (front * 10 + (get_or bs i 0 - 48)) (drop (i + 1) bs)
worth_after-step front i bs lt = rw (add-one, drop-cons bs i 0) refl

pub value_of-none : (value i : ℕ) (digits : List ℕ) → i < length digits → 2 ^ 64 ≤ value * 10 + (get_or digits i 0 - 48)
    → worth_after value (drop i digits) ≡ worth_after 0 digits → value_of digits ≡ None
unfolding value_of
value_of-none value i digits lt large so_far =
    let front = worth_after-front (value * 10 + (get_or digits i 0 - 48)) (drop (i + 1) digits) in
    let whole : worth_after (value * 10 + (get_or digits i 0 - 48)) (drop (i + 1) digits) ≡ worth_after 0 digits = sym (worth_after-step value i digits lt) ∙ so_far in
    let past : ltb (worth_after 0 digits) (2 ^ 64) ≡ false = le-ltb (worth_after 0 digits) (2 ^ 64) (omega (arith, front, whole, large)) in
    rw past refl

pub value_of-some : (value i : ℕ) (digits : List ℕ) → length digits ≤ i → value < 2 ^ 64
    → worth_after value (drop i digits) ≡ worth_after 0 digits → value_of digits ≡ Some value
unfolding value_of
value_of-some value i digits all small so_far =
    let end : drop i digits ≡ [] = drop_all i digits all in
    let whole : worth_after 0 digits ≡ value = sym so_far ∙ ap (worth_after value) end in
    let fits : ltb value (2 ^ 64) ≡ true = lt-ltb value (2 ^ 64) small in
    rw (whole, fits) refl

-- ---- digits and decimal

own : IsNumeralModel (λ ds. all_ascii_digits ds ≡ true) (worth_after 0)
own = numerals_by_fold _ tells_all_ascii_digits worth_after (search rules)

all_is : (ds : List ℕ) → list_all is_ascii_digit ds ≡ all_ascii_digits ds
all_is [] = refl
all_is (d ∷ ds) = ap (λ b. is_ascii_digit d && b) (all_is ds)

canonical_first : (ds : List ℕ) → is_canonical ds ≡ true → (0 < length ds) × (get_or ds 0 0 ≡ 48 → length ds ≡ 1)
canonical_first [] e = absurd (Prim.cc)
canonical_first (a ∷ []) e = (omega arith, λ h. refl)
canonical_first (a ∷ b ∷ ds) e = (omega arith, λ h. let q : (a == 48) ≡ true = (Decides-eqb a 48).1 h in let n : false ≡ true = rw q at e in absurd (Prim.cc))

first_canonical : (ds : List ℕ) → 48 < get_or ds 0 0 → is_canonical ds ≡ true
first_canonical [] h = absurd (omega arith)
first_canonical (a ∷ []) h = refl
first_canonical (a ∷ b ∷ ds) h = on (a == 48) refl
  where
    on : (v : Bool) → (a == 48) ≡ v → not v ≡ true
    on false q = refl
    on true q = let e : a ≡ 48 = (Decides-eqb a 48).0 q in absurd (omega (arith, e, h))

value_is : (ds : List ℕ) (n : ℕ) → value_of ds ≡ Some n → (worth_after 0 ds ≡ n) × (n < 2 ^ 64)
unfolding value_of
value_is ds n = on (ltb (worth_after 0 ds) (2 ^ 64)) refl
  where
    on : (v : Bool) → ltb (worth_after 0 ds) (2 ^ 64) ≡ v → cond v (Some (worth_after 0 ds)) None ≡ Some n → (worth_after 0 ds ≡ n) × (n < 2 ^ 64)
    on true q e = let s : worth_after 0 ds ≡ n = cc in (s, let lt : worth_after 0 ds < 2 ^ 64 = (Decides-ltb (worth_after 0 ds) (2 ^ 64)).0 q in subst (λ m. m < 2 ^ 64) s lt)
    on false q e = absurd (Prim.cc)

-- the number is the one that these digits write
pub number_is : (bytes : List ℕ) (n : ℕ) → number_of bytes ≡ Some n → (n < 2 ^ 64) × (decimal n ≡ bytes)
unfolding number_of is_number
number_is bytes n = on (list_all is_ascii_digit bytes) (is_canonical bytes) refl refl
  where
    on : (v w : Bool) → list_all is_ascii_digit bytes ≡ v → is_canonical bytes ≡ w → cond (v && w) (value_of bytes) None ≡ Some n → (n < 2 ^ 64) × (decimal n ≡ bytes)
    on true true p q e =
        let v = value_is bytes n e in
        let c = canonical_first bytes q in
        let d : decimal (worth_after 0 bytes) ≡ bytes = decimal-digits_value own bytes (sym (all_is bytes) ∙ p) c.0 c.1 (subst (λ m. m < 2 ^ 64) (sym v.0) v.1) in
        (v.1, ap (λ m. decimal m) (sym v.0) ∙ d)
    on true false p q e = absurd (Prim.cc)
    on false w p q e = absurd (Prim.cc)

value_again : (n : ℕ) → n < 2 ^ 64 → value_of (decimal n) ≡ Some n
unfolding value_of
value_again n lt = let e : worth_after 0 (decimal n) ≡ n = digits_value-decimal own n lt in let t : ltb n (2 ^ 64) ≡ true = lt-ltb n (2 ^ 64) lt in rw (e, t) refl

canonical_decimal : (n : ℕ) → n < 2 ^ 64 → is_canonical (decimal n) ≡ true
canonical_decimal zero lt = ap is_canonical (decimal_digit 0 (omega arith))
canonical_decimal (suc n) lt = first_canonical (decimal (suc n)) (first_decimal (suc n) (omega arith) lt)

pub number_again : (n : ℕ) → n < 2 ^ 64 → number_of (decimal n) ≡ Some n
unfolding number_of is_number
number_again n lt =
    let a : list_all is_ascii_digit (decimal n) ≡ true = all_is (decimal n) ∙ digits_decimal own n lt in
    let b : is_canonical (decimal n) ≡ true = canonical_decimal n lt in
    rw (a, b) (value_again n lt)

pub all_digits : (n : ℕ) → n < 2 ^ 64 → list_all is_ascii_digit (decimal n) ≡ true
all_digits n lt = all_is (decimal n) ∙ digits_decimal own n lt
