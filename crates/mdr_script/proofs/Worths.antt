-- What digits are worth, where a number that is too large counts as the greatest.
use Rattle.std.proofs.Common.{◌≡◌, ℕ, Bool, true, false, ltb, min, ◌+◌, ◌-◌, ◌*◌, ◌^◌, ◌<◌, ◌≤◌, List, length, get_or, drop, refl, sym, ap, ◌∙◌, arith}
use Rattle.std.proofs.Math.Nat.{min-eq_left, min-eq_right}
use Rattle.std.proofs.lemmas.Bool.{ltb-true, ltb-false}
use Rattle.std.proofs.lemmas.List.{drop_all}
use Rattle.mdr_syntax.specs.Numbers.{digit_of, worth_after}
use Rattle.mdr_syntax.proofs.Worth.{worth_after-front, worth_after-step}
use Rattle.mdr_script.specs.Numbers.{value_of}

abbrev most : ℕ
most = 2 ^ 128 - 1

cut_by : (radix m x : ℕ) (bs : List ℕ) → 0 < radix → (t : Bool) → ltb x m ≡ t → min (worth_after radix (min x m) bs) m ≡ min (worth_after radix x bs) m
cut_by radix m x bs h true q =
    let lt : x < m = ltb-true x m q in
    let le : x ≤ m = omega (arith, lt) in
    ap (λ y. min (worth_after radix y bs) m) (min-eq_left le)
cut_by radix m x bs h false q =
    let over : m ≤ x = ltb-false x m q in
    let front : x ≤ worth_after radix x bs = worth_after-front radix x bs h in
    let held : m ≤ worth_after radix m bs = worth_after-front radix m bs h in
    let whole : m ≤ worth_after radix x bs = omega (arith, front, over) in
    ap (λ y. min (worth_after radix y bs) m) (min-eq_right over) ∙ min-eq_right held ∙ sym (min-eq_right whole)

cut : (radix m x : ℕ) (bs : List ℕ) → 0 < radix → min (worth_after radix (min x m) bs) m ≡ min (worth_after radix x bs) m
cut radix m x bs h = cut_by radix m x bs h (ltb x m) refl

-- one more digit
pub value_step : (radix value next i whole : ℕ) (digits : List ℕ) → 0 < radix → i < length digits → next ≡ min (value * radix + digit_of (get_or digits i 0)) most
    → min (worth_after radix value (drop i digits)) most ≡ whole → min (worth_after radix next (drop (i + 1) digits)) most ≡ whole
value_step radix value next i whole digits h lt e so_far =
    ap (λ y. min (worth_after radix y (drop (i + 1) digits)) most) e
    ∙ cut radix most (value * radix + digit_of (get_or digits i 0)) (drop (i + 1) digits) h
    ∙ ap (λ y. min y most) (sym (worth_after-step radix value i digits lt)) ∙ so_far

-- all digits are counted
pub value_end : (radix value i : ℕ) (digits : List ℕ) → length digits ≤ i → value ≤ most → min (worth_after radix value (drop i digits)) most ≡ min (worth_after radix 0 digits) most → value ≡ value_of radix digits
unfolding value_of
value_end radix value i digits all fits so_far = sym (ap (λ ds. min (worth_after radix value ds) most) (drop_all i digits all) ∙ min-eq_left fits) ∙ so_far
