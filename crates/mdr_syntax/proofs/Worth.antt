-- What digits are worth.
use Rattle.std.proofs.Common.{◌≡◌, ℕ, zero, suc, true, false, ltb, Some, None, ◌+◌, ◌*◌, ◌^◌, ◌<◌, ◌≤◌, List, [], ◌∷◌, length, get_or, drop, refl, sym, ap, ◌∙◌, arith, add-one, drop-cons}
use Rattle.std.proofs.Math.Nat.{mul-suc}
use Rattle.std.proofs.lemmas.Bool.{le-ltb, lt-ltb}
use Rattle.std.proofs.lemmas.List.{drop_all}
use Rattle.mdr_syntax.specs.Numbers.{digit_of, worth_after, value_of}

-- no digit makes a number less
pub worth_after-front : (radix front : ℕ) (bs : List ℕ) → 0 < radix → front ≤ worth_after radix front bs
worth_after-front radix front [] h = omega arith
worth_after-front radix front (b ∷ bs) h =
    let more : front * radix + digit_of b ≤ worth_after radix (front * radix + digit_of b) bs = worth_after-front radix (front * radix + digit_of b) bs h in
    let grows : front ≤ front * radix = grows_by front radix h in
    omega (arith, more, grows)
  where
    grows_by : (m n : ℕ) → 0 < n → m ≤ m * n
    grows_by m zero k = absurd (omega arith)
    grows_by m (suc n) k = rw mul-suc (omega arith)

-- one more digit
pub worth_after-step : (radix front i : ℕ) (bs : List ℕ) → i < length bs → worth_after radix front (drop i bs) ≡ worth_after radix (front * radix + digit_of (get_or bs i 0)) (drop (i + 1) bs)
worth_after-step radix front i bs lt = rw (add-one, drop-cons bs i 0) refl

-- with one more digit the number is too large, and so is the whole
pub value_of-none : (radix value i : ℕ) (digits : List ℕ) → 0 < radix → i < length digits → 2 ^ 64 ≤ value * radix + digit_of (get_or digits i 0)
    → worth_after radix value (drop i digits) ≡ worth_after radix 0 digits → value_of radix digits ≡ None
unfolding value_of
value_of-none radix value i digits h lt large so_far =
    let front : value * radix + digit_of (get_or digits i 0) ≤ worth_after radix (value * radix + digit_of (get_or digits i 0)) (drop (i + 1) digits) = worth_after-front radix (value * radix + digit_of (get_or digits i 0)) (drop (i + 1) digits) h in
    let whole : worth_after radix (value * radix + digit_of (get_or digits i 0)) (drop (i + 1) digits) ≡ worth_after radix 0 digits = sym (worth_after-step radix value i digits lt) ∙ so_far in
    let past : ltb (worth_after radix 0 digits) (2 ^ 64) ≡ false = le-ltb (worth_after radix 0 digits) (2 ^ 64) (omega (arith, front, whole, large)) in
    rw past refl

-- all digits are counted
pub value_of-some : (radix value i : ℕ) (digits : List ℕ) → length digits ≤ i → value < 2 ^ 64
    → worth_after radix value (drop i digits) ≡ worth_after radix 0 digits → value_of radix digits ≡ Some value
unfolding value_of
value_of-some radix value i digits all small so_far =
    let end : drop i digits ≡ [] = drop_all i digits all in
    let whole : worth_after radix 0 digits ≡ value = sym so_far ∙ ap (worth_after radix value) end in
    let fits : ltb value (2 ^ 64) ≡ true = lt-ltb value (2 ^ 64) small in
    rw (whole, fits) refl
