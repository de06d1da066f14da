-- The lines of messages and of their number have no newline.
use Rattle.std.proofs.Common.{◌≡◌, ℕ, zero, suc, Bool, true, false, cond, not, ◌+◌, ◌/◌, ◌%◌, ◌<◌, ◌==◌, ltb, List, [], ◌∷◌, ◌++◌, length, IsTrue, codes, decimal, refl, sym, subst, ◌∙◌, arith, ltb-true}
use Rattle.std.specs.List.{list_all, prefix_len}
use Rattle.std.specs.Fmt.{digits, digits_onto, digit_glyph}
use Rattle.std.proofs.lemmas.Bool.Decides.{Decides-eqb}
use Rattle.std.proofs.lemmas.List.Folds.{list_all-append}
use Rattle.mdr_plain.specs.Report.{hex, hex_byte}
use Rattle.mdr_verify.specs.Transcripts.{in_line, IsOneLine, is_byte, AreBytes, sent_text, got_text, count_text}
use Rattle.mdr_verify.proofs.Pairs.{both, both_true, digits_of_byte}

abbrev pub IsPlain : List ℕ → Type 0
IsPlain bytes = IsTrue (list_all in_line bytes)

all_in : (xs : List ℕ) → prefix_len in_line xs ≡ length xs → list_all in_line xs ≡ true
all_in [] e = refl
all_in (x ∷ xs) e = on (in_line x) refl e (all_in xs)
  where
    on : (v : Bool) → in_line x ≡ v → cond v (1 + prefix_len in_line xs) 0 ≡ suc (length xs) → (prefix_len in_line xs ≡ length xs → list_all in_line xs ≡ true) → list_all in_line (x ∷ xs) ≡ true
    on true q f h = let g : prefix_len in_line xs ≡ length xs = omega (arith, f) in rw q (h g)
    on false q f h = absurd (omega (arith, f))

pub one_plain : (line : List ℕ) → IsOneLine line → IsPlain line
one_plain line h = all_in line h

joined : (xs ys : List ℕ) → IsPlain xs → IsPlain ys → IsPlain (xs ++ ys)
joined xs ys h k = let a : list_all in_line xs ≡ true = h in let b : list_all in_line ys ≡ true = k in list_all-append in_line xs ys ∙ rw (a, b) refl

-- ---- digits

above : (n : ℕ) → 10 < n → in_line n ≡ true
above n lt = on (n == 10) refl
  where
    on : (v : Bool) → (n == 10) ≡ v → not v ≡ true
    on true q = let e : n ≡ 10 = (Decides-eqb n 10).0 q in absurd (omega (arith, e, lt))
    on false q = refl

glyph_plain : (d : ℕ) → in_line (digit_glyph false d) ≡ true
glyph_plain d = on (ltb d 10)
  where
    on : (v : Bool) → in_line (cond v (48 + d) (87 + d)) ≡ true
    on true = above (48 + d) (omega arith)
    on false = above (87 + d) (omega arith)

onto_plain : (k n : ℕ) (acc : List ℕ) → IsPlain acc → IsPlain (digits_onto k 10 false n acc)
onto_plain zero n acc h = h
onto_plain (suc k) n acc h =
    let more : IsPlain (digit_glyph false (n % 10) ∷ acc) = let g : in_line (digit_glyph false (n % 10)) ≡ true = glyph_plain (n % 10) in rw g h in
    on (n / 10 == 0) more (onto_plain k (n / 10) (digit_glyph false (n % 10) ∷ acc) more)
  where
    on : (v : Bool) → IsPlain (digit_glyph false (n % 10) ∷ acc) → IsPlain (digits_onto k 10 false (n / 10) (digit_glyph false (n % 10) ∷ acc)) → IsPlain (cond v (digit_glyph false (n % 10) ∷ acc) (digits_onto k 10 false (n / 10) (digit_glyph false (n % 10) ∷ acc)))
    on true a b = a
    on false a b = b

decimal_plain : (n : ℕ) → IsPlain (decimal n)
unfolding digits
decimal_plain n = onto_plain 64 n [] refl

byte_plain : (n : ℕ) → n < 256 → IsPlain (hex_byte n)
byte_plain n lt = subst IsPlain (sym (digits_of_byte n lt)) (both_true (in_line (digit_glyph false (n / 16))) (list_all in_line (digit_glyph false (n % 16) ∷ [])) (glyph_plain (n / 16)) (both_true (in_line (digit_glyph false (n % 16))) true (glyph_plain (n % 16)) refl))

hex_plain : (message : List ℕ) → AreBytes message → IsPlain (hex message)
unfolding hex
hex_plain [] h = refl
hex_plain (n ∷ message) h =
    let p = both (is_byte n) (list_all is_byte message) h in
    joined (hex_byte n) (hex message) (byte_plain n (ltb-true n 256 p.0)) (hex_plain message p.1)

-- ---- lines

pub sent_plain : (message : List ℕ) → AreBytes message → IsPlain (sent_text message)
sent_plain message h = joined (codes "> ") (hex message) refl (hex_plain message h)

pub got_plain : (message : List ℕ) → AreBytes message → IsPlain (got_text message)
got_plain message h = joined (codes "< ") (hex message) refl (hex_plain message h)

pub count_plain : (n : ℕ) → IsPlain (count_text n)
count_plain n = joined (codes "messages ") (decimal n) refl (decimal_plain n)
