-- The front of a text that is a line `#define NAME [-] NUMBER`.
use Rattle.std.proofs.Common.{◌≡◌, ℕ, Bool, true, false, Some, Ok, ◌+◌, ◌-◌, List, [], ◌∷◌, ◌++◌, length, refl, ap, ◌∙◌, codes, append_assoc, length-append, arith}
use Rattle.std.specs.Prelude.{slice_index}
use Rattle.std.specs.List.{list_all, prefix_len}
use Rattle.std.specs.Char.{is_ascii_digit}
use Rattle.std.proofs.lemmas.Bool.{false≢true}
use Rattle.mdr_core.specs.declared.kind.Kind.{Kind}
use Rattle.mdr_core.specs.declared.place.Place.{Place}
use Rattle.mdr_syntax.specs.declared.token.Lexeme.TheVariants.{Define}
use Rattle.mdr_syntax.specs.Bytes.{is_blank, is_letter, is_name_byte, is_number_byte}
use Rattle.mdr_syntax.specs.Words.{is_reserved}
use Rattle.mdr_syntax.specs.Pieces.{skip_blanks, begins_letter, begins_digit, sign_at, define_head, define_piece, directive_piece, number_at, place_right, piece_at}
use Rattle.mdr_print.specs.Marks.{sign_of, number_text, token_text}
use Rattle.mdr_print.specs.Spelled.{IsFront}
use Rattle.mdr_roundtrip.specs.Words.{is_word, is_written}
use Rattle.mdr_roundtrip.proofs.Tests.{both, not_when, prefix_front, front_taken}
use Rattle.mdr_roundtrip.proofs.NumberFronts.{number_behind, number_digit, dropped}

skip_none : (bs : List ℕ) → is_blank (slice_index bs 0) ≡ false → skip_blanks bs ≡ bs
skip_none [] e = refl
skip_none (b ∷ bs) e = rw e refl

skip_one : (bs : List ℕ) → is_blank (slice_index bs 0) ≡ false → skip_blanks (32 ∷ bs) ≡ bs
skip_one [] e = refl
skip_one (b ∷ bs) e = rw e refl

digit_no_blank : (b : ℕ) → is_ascii_digit b ≡ true → is_blank b ≡ false
digit_no_blank b h =
    let a = not_when is_ascii_digit b 32 h refl in
    let c = not_when is_ascii_digit b 9 h refl in
    rw (a, c) refl

letter_no_blank : (b : ℕ) → is_letter b ≡ true → is_blank b ≡ false
letter_no_blank b h =
    let a = not_when is_letter b 32 h refl in
    let c = not_when is_letter b 9 h refl in
    rw (a, c) refl

word_letter : (name : List ℕ) → is_word name ≡ true → begins_letter name ≡ true
word_letter [] w = w
word_letter (b ∷ bs) w = (both (is_letter b) (list_all is_name_byte bs) w).0

word_blank : (name rest : List ℕ) → is_word name ≡ true → is_blank (slice_index (name ++ rest) 0) ≡ false
word_blank [] rest w = absurd (false≢true w)
word_blank (b ∷ bs) rest w = letter_no_blank b (both (is_letter b) (list_all is_name_byte bs) w).0

word_bytes : (name : List ℕ) → is_word name ≡ true → list_all is_name_byte name ≡ true
word_bytes [] w = refl
word_bytes (b ∷ bs) w =
    let h = both (is_letter b) (list_all is_name_byte bs) w in
    let l : is_letter b ≡ true = h.0 in
    rw l h.1

digit_begins : (bs : List ℕ) → is_ascii_digit (slice_index bs 0) ≡ true → begins_digit bs ≡ true
digit_begins [] d = d
digit_begins (b ∷ bs) d = d

sign_none : (bs : List ℕ) → is_ascii_digit (slice_index bs 0) ≡ true → sign_at bs ≡ (false, bs)
sign_none [] d = refl
sign_none (b ∷ bs) d = let e = not_when is_ascii_digit b 45 d refl in rw e refl

sign_minus : (bs : List ℕ) → is_ascii_digit (slice_index bs 0) ≡ true → sign_at (45 ∷ bs) ≡ (true, bs)
sign_minus bs d = ap (λ (z : List ℕ). (true, z)) (skip_none bs (digit_no_blank (slice_index bs 0) d))

head_is : (name text digits : List ℕ) (is_negative : Bool) → is_word name ≡ true → is_reserved name ≡ false → is_blank (slice_index text 0) ≡ false → sign_at text ≡ (is_negative, digits)
    → begins_digit digits ≡ true → define_head (32 ∷ (name ++ (32 ∷ text))) ≡ Some (name, is_negative, digits)
unfolding define_head
head_is name text digits is_negative w r blank signed digit =
    let a : skip_blanks (32 ∷ (name ++ (32 ∷ text))) ≡ name ++ (32 ∷ text) = skip_one (name ++ (32 ∷ text)) (word_blank name (32 ∷ text) w) in
    let len : prefix_len is_name_byte (name ++ (32 ∷ text)) ≡ length name = prefix_front is_name_byte name (32 ∷ text) (word_bytes name w) refl in
    let t = front_taken name (32 ∷ text) in
    let d = dropped name (32 ∷ text) in
    let s : skip_blanks (32 ∷ text) ≡ text = skip_one text blank in
    let l = word_letter name w in
    rw (a, len, t, d, s, signed, l, r, digit) refl

directive_is : (is_fresh : Bool) (place : Place) (bytes : List ℕ) → piece_at is_fresh place (codes "#define " ++ bytes) ≡ define_piece place (length (codes "#define " ++ bytes)) (32 ∷ bytes)
unfolding piece_at directive_piece
directive_is true place bytes = refl
directive_is false place bytes = refl

piece_is : (place : Place) (len : ℕ) (bytes name digits : List ℕ) (is_negative : Bool) (n : ℕ) (k : Kind) (more : ℕ) → define_head bytes ≡ Some (name, is_negative, digits)
    → ((p : Place) → number_at p digits ≡ Ok (n, k, more)) → define_piece place len bytes ≡ Ok (record { what = Some (Define name is_negative n k); more = len - length digits + more })
unfolding define_piece
piece_is place len bytes name digits is_negative n k more h r =
    let read = r (place_right place (len - length digits)) in
    rw (h, read) refl

define_with : (name : List ℕ) (is_negative : Bool) (n : ℕ) (k : Kind) (rest : List ℕ) → is_word name ≡ true → is_reserved name ≡ false → is_written n k ≡ true
    → is_blank (slice_index ((sign_of is_negative ++ number_text n k) ++ rest) 0) ≡ false
    → sign_at ((sign_of is_negative ++ number_text n k) ++ rest) ≡ (is_negative, number_text n k ++ rest)
    → is_number_byte (slice_index rest 0) ≡ false
    → IsFront (token_text (Define name is_negative n k)) (Some (Define name is_negative n k)) rest
unfolding token_text
define_with name is_negative n k rest w r h blank signed q =
    let text : List ℕ = sign_of is_negative ++ number_text n k in
    let digits : List ℕ = number_text n k ++ rest in
    let b = number_behind n k rest h q in
    let whole : (name ++ (32 ∷ text)) ++ rest ≡ name ++ (32 ∷ (text ++ rest)) = append_assoc name (32 ∷ text) rest in
    let head = head_is name (text ++ rest) digits is_negative w r blank signed (digit_begins digits (number_digit n k rest h)) in
    let len : ℕ = length (codes "#define " ++ (name ++ (32 ∷ (text ++ rest)))) in
    let a = length-append name (32 ∷ (text ++ rest)) in
    let c = length-append text rest in
    let d = length-append name (32 ∷ text) in
    let e = length-append (number_text n k) rest in
    let f = length-append (sign_of is_negative) (number_text n k) in
    record {
      more = len - length digits + b.more;
      front = λ is_fresh place. ap (λ (bs : List ℕ). piece_at is_fresh place (codes "#define " ++ bs)) whole
          ∙ directive_is is_fresh place (name ++ (32 ∷ (text ++ rest)))
          ∙ piece_is place len (32 ∷ (name ++ (32 ∷ (text ++ rest)))) name digits is_negative n k b.more head b.read;
      whole = omega (arith, a, c, d, e, f, b.whole);
    }

pub define_front : (name : List ℕ) (is_negative : Bool) (n : ℕ) (k : Kind) (rest : List ℕ) → is_word name ≡ true → is_reserved name ≡ false → is_written n k ≡ true
    → is_number_byte (slice_index rest 0) ≡ false → IsFront (token_text (Define name is_negative n k)) (Some (Define name is_negative n k)) rest
define_front name true n k rest w r h q = define_with name true n k rest w r h refl (sign_minus (number_text n k ++ rest) (number_digit n k rest h)) q
define_front name false n k rest w r h q =
    let d = number_digit n k rest h in
    define_with name false n k rest w r h (digit_no_blank (slice_index (number_text n k ++ rest) 0) d) (sign_none (number_text n k ++ rest) d) q
