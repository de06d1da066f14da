-- Bytes and their pairs of digits.
use Rattle.std.proofs.Common.{◌≡◌, ℕ, Bool, true, false, cond, ◌&&◌, ◌||◌, ◌+◌, ◌-◌, ◌*◌, ◌/◌, ◌%◌, ◌<◌, ◌≤◌, ◌==◌, ltb, nat_lt, nat_le, List, [], ◌∷◌, ◌++◌, length, IsTrue, refl, sym, ap, subst, ◌∙◌, arith, ltb-true, ltb-false}
use Rattle.std.specs.List.{list_all}
use Rattle.std.specs.Fmt.{digits, digit_glyph}
use Rattle.std.proofs.lemmas.Bool.{le-leb, lt-leb, leb-true, lt-ltb, le-ltb}
use Rattle.std.proofs.lemmas.Fmt.{hex_one_digit, hex_two_digits}
use Rattle.mdr_plain.specs.Report.{hex, hex_byte, two_digits}
use Rattle.mdr_verify.specs.Transcripts.{is_byte, AreBytes}
use Rattle.mdr_verify.specs.Digits.{worth, is_digit, are_pairs, bytes_of}

pub both : (a b : Bool) → IsTrue (a && b) → IsTrue a × IsTrue b
both true b h = (refl, h)
both false b h = let q : false ≡ true = h in absurd (Prim.cc)

pub both_true : (a b : Bool) → IsTrue a → IsTrue b → IsTrue (a && b)
both_true true b h k = k
both_true false b h k = h

pub no : {A : Type 0} → IsTrue false → A
no h = let q : false ≡ true = h in absurd (Prim.cc)

-- ---- a byte's digits

below : (n : ℕ) → n < 16 → hex_byte n ≡ digit_glyph false (n / 16) ∷ digit_glyph false (n % 16) ∷ []
below n small =
    let front : 0 ≡ n / 16 = omega arith in
    let back : n ≡ n % 16 = omega arith in
    ap two_digits (hex_one_digit false n small)
    ∙ ap (λ d. digit_glyph false d ∷ digit_glyph false n ∷ []) front
    ∙ ap (λ d. digit_glyph false (n / 16) ∷ digit_glyph false d ∷ []) back

above : (n : ℕ) → 16 ≤ n → n < 256 → hex_byte n ≡ digit_glyph false (n / 16) ∷ digit_glyph false (n % 16) ∷ []
above n large small = ap two_digits (hex_two_digits false n large small)

by_size : (n : ℕ) (t : Bool) → nat_lt n 16 ≡ t → n < 256 → hex_byte n ≡ digit_glyph false (n / 16) ∷ digit_glyph false (n % 16) ∷ []
by_size n true e small = below n (ltb-true n 16 e)
by_size n false e small = above n (ltb-false n 16 e) small

pub digits_of_byte : (n : ℕ) → n < 256 → hex_byte n ≡ digit_glyph false (n / 16) ∷ digit_glyph false (n % 16) ∷ []
digits_of_byte n small = by_size n (nat_lt n 16) refl small

-- ---- one digit

-- a byte is a digit, and is worth so much
record IsDigit (b value : ℕ) : Type 0 where
  is : is_digit b ≡ true
  worth_is : worth b ≡ value
  few : value < 16
  glyph : digit_glyph false value ≡ b

low : (b : ℕ) → 48 ≤ b → b ≤ 57 → IsDigit b (b - 48)
low b h k =
    let first : (nat_le 48 b && nat_le b 57) ≡ true = both_true (nat_le 48 b) (nat_le b 57) (le-leb 48 b h) (le-leb b 57 k) in
    let small : ltb (b - 48) 10 ≡ true = lt-ltb (b - 48) 10 (omega (arith, h, k)) in
    let back : 48 + (b - 48) ≡ b = omega (arith, h) in
    record {
      is = ap (λ t. t || (nat_le 97 b && nat_le b 102)) first;
      worth_is = ap (λ t. cond t (b - 48) (cond (nat_le 97 b && nat_le b 102) (b - 87) 0)) first;
      few = omega (arith, h, k);
      glyph = ap (λ t. cond t (48 + (b - 48)) (87 + (b - 48))) small ∙ back;
    }

high : (b : ℕ) → 97 ≤ b → b ≤ 102 → IsDigit b (b - 87)
high b h k =
    let first : (nat_le 48 b && nat_le b 57) ≡ false = ap (λ t. t && nat_le b 57) (le-leb 48 b (omega (arith, h))) ∙ lt-leb b 57 (omega (arith, h)) in
    let second : (nat_le 97 b && nat_le b 102) ≡ true = both_true (nat_le 97 b) (nat_le b 102) (le-leb 97 b h) (le-leb b 102 k) in
    let large : ltb (b - 87) 10 ≡ false = le-ltb (b - 87) 10 (omega (arith, h)) in
    let back : 87 + (b - 87) ≡ b = omega (arith, h) in
    record {
      is = ap (λ t. t || (nat_le 97 b && nat_le b 102)) first ∙ second;
      worth_is = ap (λ t. cond t (b - 48) (cond (nat_le 97 b && nat_le b 102) (b - 87) 0)) first ∙ ap (λ t. cond t (b - 87) 0) second;
      few = omega (arith, h, k);
      glyph = ap (λ t. cond t (48 + (b - 87)) (87 + (b - 87))) large ∙ back;
    }

digit_is : (b : ℕ) → is_digit b ≡ true → IsDigit b (worth b)
digit_is b h = on (nat_le 48 b && nat_le b 57) (nat_le 97 b && nat_le b 102) refl refl h
  where
    kept : (value : ℕ) → IsDigit b value → IsDigit b (worth b)
    kept value d = record { is = d.is; worth_is = refl; few = subst (λ v. v < 16) (sym d.worth_is) d.few; glyph = ap (digit_glyph false) d.worth_is ∙ d.glyph }

    on : (t u : Bool) → (nat_le 48 b && nat_le b 57) ≡ t → (nat_le 97 b && nat_le b 102) ≡ u → (t || u) ≡ true → IsDigit b (worth b)
    on true u e f q = let a = both (nat_le 48 b) (nat_le b 57) e in kept (b - 48) (low b (leb-true 48 b a.0) (leb-true b 57 a.1))
    on false true e f q = let a = both (nat_le 97 b) (nat_le b 102) f in kept (b - 87) (high b (leb-true 97 b a.0) (leb-true b 102 a.1))
    on false false e f q = no q

glyph_is : (d : ℕ) → d < 16 → IsDigit (digit_glyph false d) d
glyph_is d lt = on (ltb d 10) refl
  where
    moved : (b v : ℕ) → b ≡ digit_glyph false d → v ≡ d → IsDigit b v → IsDigit (digit_glyph false d) d
    moved b v e f h = record { is = ap is_digit (sym e) ∙ h.is; worth_is = ap worth (sym e) ∙ h.worth_is ∙ f; few = lt; glyph = refl }

    on : (t : Bool) → ltb d 10 ≡ t → IsDigit (digit_glyph false d) d
    on true e = let l = ltb-true d 10 e in moved (48 + d) (48 + d - 48) (sym (ap (λ v. cond v (48 + d) (87 + d)) e)) (omega arith) (low (48 + d) (omega arith) (omega (arith, l)))
    on false e = let l = ltb-false d 10 e in moved (87 + d) (87 + d - 87) (sym (ap (λ v. cond v (48 + d) (87 + d)) e)) (omega arith) (high (87 + d) (omega (arith, l)) (omega (arith, lt)))

-- ---- all digits

pub record AreDigitsOf (digits message : List ℕ) : Type 0 where
  pub pairs : are_pairs digits ≡ true
  pub bytes : bytes_of digits ≡ message
  pub shown : hex message ≡ digits
  pub are : AreBytes message

none_are : AreDigitsOf [] []
unfolding hex bytes_of
none_are = record { pairs = refl; bytes = refl; shown = refl; are = refl }

more_pairs : (a b : ℕ) (digits : List ℕ) → is_digit a ≡ true → is_digit b ≡ true → are_pairs digits ≡ true → are_pairs (a ∷ b ∷ digits) ≡ true
more_pairs a b digits h k e =
    let p = both (length digits % 2 == 0) (list_all is_digit digits) e in
    let two : length (a ∷ b ∷ digits) % 2 ≡ length digits % 2 = omega arith in
    both_true (length (a ∷ b ∷ digits) % 2 == 0) (list_all is_digit (a ∷ b ∷ digits)) (ap (λ n. n == 0) two ∙ p.0) (both_true (is_digit a) (list_all is_digit (b ∷ digits)) h (both_true (is_digit b) (list_all is_digit digits) k p.1))

high_part : (high low : ℕ) → low < 16 → (high * 16 + low) / 16 ≡ high
high_part high low lt = omega (arith, lt)

low_part : (high low : ℕ) → low < 16 → (high * 16 + low) % 16 ≡ low
low_part high low lt = omega (arith, lt)

two_are : (a b high low : ℕ) (digits message : List ℕ) → IsDigit a high → IsDigit b low → AreDigitsOf digits message → AreDigitsOf (a ∷ b ∷ digits) ((high * 16 + low) ∷ message)
unfolding hex bytes_of
two_are a b high low digits message h l m =
    let f = h.few in let g = l.few in
    let lt : high * 16 + low < 256 = omega (arith, f, g) in
    record {
      pairs = more_pairs a b digits h.is l.is m.pairs;
      bytes = ap (λ x. (x * 16 + worth b) ∷ bytes_of digits) h.worth_is ∙ ap (λ y. (high * 16 + y) ∷ bytes_of digits) l.worth_is ∙ ap (λ ms. (high * 16 + low) ∷ ms) m.bytes;
      shown = ap (λ ds. ds ++ hex message) (digits_of_byte (high * 16 + low) lt)
          ∙ ap (λ d. digit_glyph false d ∷ digit_glyph false ((high * 16 + low) % 16) ∷ hex message) (high_part high low g)
          ∙ ap (λ d. digit_glyph false high ∷ digit_glyph false d ∷ hex message) (low_part high low g)
          ∙ ap (λ d. d ∷ digit_glyph false low ∷ hex message) h.glyph
          ∙ ap (λ d. a ∷ d ∷ hex message) l.glyph
          ∙ ap (λ ds. a ∷ b ∷ ds) m.shown;
      are = both_true (is_byte (high * 16 + low)) (list_all is_byte message) (lt-ltb (high * 16 + low) 256 lt) m.are;
    }

-- the digits of bytes are read as these bytes
pub shown_again : (message : List ℕ) → AreBytes message → AreDigitsOf (hex message) message
unfolding hex
shown_again [] h = none_are
shown_again (n ∷ message) h =
    let p = both (is_byte n) (list_all is_byte message) h in
    let lt : n < 256 = ltb-true n 256 p.0 in
    let is : n / 16 * 16 + n % 16 ≡ n = omega arith in
    let two = two_are (digit_glyph false (n / 16)) (digit_glyph false (n % 16)) (n / 16) (n % 16) (hex message) message (glyph_is (n / 16) (omega (arith, lt))) (glyph_is (n % 16) (omega arith)) (shown_again message p.1) in
    moved n (n / 16 * 16 + n % 16) message (digit_glyph false (n / 16) ∷ digit_glyph false (n % 16) ∷ hex message) is (ap (λ ds. ds ++ hex message) (sym (digits_of_byte n lt))) two
  where
    moved : (n m : ℕ) (message digits : List ℕ) → m ≡ n → digits ≡ hex_byte n ++ hex message → AreDigitsOf digits (m ∷ message) → AreDigitsOf (hex (n ∷ message)) (n ∷ message)
    moved n m message digits e f d =
        record {
          pairs = ap are_pairs (sym f) ∙ d.pairs;
          bytes = ap bytes_of (sym f) ∙ d.bytes ∙ ap (λ k. k ∷ message) e;
          shown = refl;
          are = ap (λ k. list_all is_byte (k ∷ message)) (sym e) ∙ d.are;
        }

-- pairs of digits are those of the bytes that they are read as
pub pairs_again : (digits : List ℕ) → are_pairs digits ≡ true → AreDigitsOf digits (bytes_of digits)
unfolding bytes_of
pairs_again [] h = none_are
pairs_again (a ∷ []) h = no h
pairs_again (a ∷ b ∷ digits) h =
    let p = both (length (a ∷ b ∷ digits) % 2 == 0) (list_all is_digit (a ∷ b ∷ digits)) h in
    let q = both (is_digit a) (list_all is_digit (b ∷ digits)) p.1 in
    let r = both (is_digit b) (list_all is_digit digits) q.1 in
    let two : length (a ∷ b ∷ digits) % 2 ≡ length digits % 2 = omega arith in
    let rest = both_true (length digits % 2 == 0) (list_all is_digit digits) (ap (λ n. n == 0) (sym two) ∙ p.0) r.1 in
    two_are a b (worth a) (worth b) digits (bytes_of digits) (digit_is a q.0) (digit_is b r.0) (pairs_again digits rest)
