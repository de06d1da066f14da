-- A byte's two digits.
use Rattle.std.proofs.Common.{◌≡◌, ℕ, ◌/◌, ◌%◌, ◌<◌, ◌≤◌, Bool, true, false, List, [], ◌∷◌, ◌++◌, nat_lt, append_assoc, refl, sym, ap, ◌∙◌, ltb-true, ltb-false, arith}
use Rattle.std.specs.Fmt.{digit_glyph}
use Rattle.std.proofs.lemmas.Fmt.{hex_one_digit, hex_two_digits}
use Rattle.mdr_plain.specs.Report.{hex_byte, two_digits}

below : (n : ℕ) → n < 16 → hex_byte n ≡ digit_glyph false (n / 16) ∷ digit_glyph false (n % 16) ∷ []
below n small =
    let front : 0 ≡ n / 16 = omega arith in
    let back : n ≡ n % 16 = omega arith in
    ap two_digits (hex_one_digit false n small)
    ∙ ap (λ d. digit_glyph false d ∷ digit_glyph false n ∷ []) front
    ∙ ap (λ d. digit_glyph false (n / 16) ∷ digit_glyph false d ∷ []) back

above : (n : ℕ) → 16 ≤ n → n < 256 → hex_byte n ≡ digit_glyph false (n / 16) ∷ digit_glyph false (n % 16) ∷ []
above n large small = ap two_digits (hex_two_digits false n large small)

by_size : (n : ℕ) (t : Bool) → nat_lt n 16 ≡ t → n < 256 → hex_byte n ≡ digit_glyph false (n / 16) ∷ digit_glyph false (n % 16) ∷ []
by_size n true e small = below n (ltb-true n 16 e)
by_size n false e small = above n (ltb-false n 16 e) small

-- its digits, put one by one behind what stands there
pub digits_put : (out : List ℕ) (n high low : ℕ) → n < 256 → high ≡ digit_glyph false (n / 16) → low ≡ digit_glyph false (n % 16) → (out ++ high ∷ []) ++ low ∷ [] ≡ out ++ hex_byte n
digits_put out n high low small h l =
    append_assoc out (high ∷ []) (low ∷ [])
    ∙ ap (λ d. out ++ d ∷ low ∷ []) h
    ∙ ap (λ d. out ++ digit_glyph false (n / 16) ∷ d ∷ []) l
    ∙ sym (ap (λ ds. out ++ ds) (by_size n (nat_lt n 16) refl small))
