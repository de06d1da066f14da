-- The front of a text that is a number with its suffix.
use Rattle.std.proofs.Common.{◌≡◌, ℕ, zero, suc, Bool, true, false, ltb, Some, Ok, ◌+◌, ◌-◌, ◌*◌, ◌^◌, ◌<◌, ◌≤◌, List, [], ◌∷◌, ◌++◌, length, get_or, drop, refl, ap, ◌∙◌, arith, decimal, codes, append_assoc}
use Rattle.std.specs.Prelude.{◌==◌, ◌&&◌, slice_index}
use Rattle.std.specs.List.{list_all, prefix_len}
use Rattle.std.specs.Char.{is_ascii_digit}
use Rattle.std.specs.Str.{all_ascii_digits}
use Rattle.std.proofs.lemmas.Bool.{false≢true, lt-ltb, eqb-true}
use Rattle.std.proofs.lemmas.Bool.Decides.{Decides-ltb, nat_tests}
use Rattle.std.proofs.lemmas.Str.Parse.{IsNumeralModel, numerals_by_fold, tells_all_ascii_digits}
use Rattle.std.proofs.lemmas.Fmt.{digits_decimal, digits_value-decimal, decimal_digit, first_decimal, decimal_nonempty}
use Rattle.mdr_core.specs.declared.kind.Kind.{Kind}
use Rattle.mdr_core.specs.declared.kind.Kind.TheVariants.{U8, U16, U32, U64, S8, S16, S32, S64}
use Rattle.mdr_core.specs.declared.place.Place.{Place}
use Rattle.mdr_syntax.specs.declared.token.Lexeme.TheVariants.{Number}
use Rattle.mdr_syntax.specs.declared.number.Suffix.{Suffix}
use Rattle.mdr_syntax.specs.Bytes.{is_space, is_letter, is_number_byte}
use Rattle.mdr_syntax.specs.Numbers.{digit_of, is_digit_of, worth_after, radix_of, suffix_of, kind_of, value_of, number_of}
use Rattle.mdr_syntax.specs.Pieces.{number_at, number_piece, piece_at}
use Rattle.mdr_print.specs.Marks.{number_text, token_text}
use Rattle.mdr_print.specs.Marks as marks
use Rattle.mdr_print.specs.Spelled.{IsFront}
use Rattle.mdr_roundtrip.specs.Words.{is_written}
use Rattle.mdr_roundtrip.proofs.Tests.{both, not_when, prefix_front, front_taken, taken, all_joined, all_weaker}

own : IsNumeralModel (λ ds. all_ascii_digits ds ≡ true) (worth_after 10 0)
own = numerals_by_fold _ tells_all_ascii_digits (worth_after 10) (record { empty = λ n. refl; more = λ n c cs h. ap (λ (d : ℕ). worth_after 10 (n * 10 + d) cs) (worth c h.0 h.1) })
  where
    worth : (c : ℕ) → 48 ≤ c → c ≤ 57 → digit_of c ≡ c - 48
    worth c low high = grind (arith, nat_tests)

all_is : (ds : List ℕ) → list_all is_ascii_digit ds ≡ all_ascii_digits ds
all_is [] = refl
all_is (d ∷ ds) = ap (λ b. is_ascii_digit d && b) (all_is ds)

all_digits : (n : ℕ) → n < 2 ^ 64 → list_all is_ascii_digit (decimal n) ≡ true
all_digits n lt = all_is (decimal n) ∙ digits_decimal own n lt

-- ---- bytes

pub digit_no_space : (b : ℕ) → is_ascii_digit b ≡ true → is_space b ≡ false
digit_no_space b h =
    let a = not_when is_ascii_digit b 32 h refl in
    let c = not_when is_ascii_digit b 9 h refl in
    let d = not_when is_ascii_digit b 10 h refl in
    let e = not_when is_ascii_digit b 13 h refl in
    rw (a, c, d, e) refl

pub digit_no_letter : (b : ℕ) → is_ascii_digit b ≡ true → is_letter b ≡ false
digit_no_letter b h = grind (arith, nat_tests)

digit_in_number : (b : ℕ) → is_ascii_digit b ≡ true → is_number_byte b ≡ true
digit_in_number b h = grind (arith, nat_tests)

digit_ten : (b : ℕ) → is_ascii_digit b ≡ true → is_digit_of 10 b ≡ true
digit_ten b h = grind (arith, nat_tests)

suffix_bytes : (k : Kind) → list_all is_number_byte (marks.suffix_of k) ≡ true
suffix_bytes U8 = refl
suffix_bytes U16 = refl
suffix_bytes U32 = refl
suffix_bytes U64 = refl
suffix_bytes S8 = refl
suffix_bytes S16 = refl
suffix_bytes S32 = refl
suffix_bytes S64 = refl

suffix_no_digit : (k : Kind) → is_digit_of 10 (slice_index (marks.suffix_of k) 0) ≡ false
suffix_no_digit U8 = refl
suffix_no_digit U16 = refl
suffix_no_digit U32 = refl
suffix_no_digit U64 = refl
suffix_no_digit S8 = refl
suffix_no_digit S16 = refl
suffix_no_digit S32 = refl
suffix_no_digit S64 = refl

pub fits : (n : ℕ) (k : Kind) → is_written n k ≡ true → n < 2 ^ 64
fits n U8 h = absurd (false≢true h)
fits n U16 h = absurd (false≢true h)
fits n U32 h = omega (arith, (Decides-ltb n (2 ^ 32)).0 h)
fits n U64 h = omega (arith, (Decides-ltb n (2 ^ 64)).0 h)
fits n S8 h = absurd (false≢true h)
fits n S16 h = absurd (false≢true h)
fits n S32 h = omega (arith, (Decides-ltb n (2 ^ 31)).0 h)
fits n S64 h = omega (arith, (Decides-ltb n (2 ^ 63)).0 h)

-- ---- the number that a text is

zero_read : (k : Kind) → is_written 0 k ≡ true → number_of ((48 ∷ []) ++ marks.suffix_of k) ≡ Some (0, k)
unfolding number_of suffix_of value_of kind_of
zero_read U8 h = absurd (false≢true h)
zero_read U16 h = absurd (false≢true h)
zero_read U32 h = refl
zero_read U64 h = refl
zero_read S8 h = absurd (false≢true h)
zero_read S16 h = absurd (false≢true h)
zero_read S32 h = refl
zero_read S64 h = refl

radix_ten : (ds : List ℕ) → 48 < get_or ds 0 0 → radix_of ds ≡ (10, ds)
radix_ten [] h = absurd (omega arith)
radix_ten (a ∷ []) h = let e : (a == 48) ≡ false = grind (arith, nat_tests) in rw e refl
radix_ten (a ∷ b ∷ ds) h = let e : (a == 48) ≡ false = grind (arith, nat_tests) in rw e refl

first_joined : (xs ys : List ℕ) → 48 < get_or xs 0 0 → 48 < get_or (xs ++ ys) 0 0
first_joined [] ys h = absurd (omega arith)
first_joined (x ∷ xs) ys h = h

pub dropped : (xs ys : List ℕ) → drop (length xs) (xs ++ ys) ≡ ys
dropped [] ys = refl
dropped (x ∷ xs) ys = dropped xs ys

nonempty : (xs : List ℕ) → 48 < get_or xs 0 0 → (length xs == 0) ≡ false
nonempty [] h = absurd (omega arith)
nonempty (x ∷ xs) h = on (length (x ∷ xs) == 0) refl
  where
    on : (t : Bool) → (length (x ∷ xs) == 0) ≡ t → t ≡ false
    on false e = refl
    on true e = absurd (omega (arith, eqb-true (length (x ∷ xs)) 0 e))

-- digits, which begin with no 0, and a suffix
read_as : (n : ℕ) (ds suf : List ℕ) (s : Suffix) (k : Kind) → n < 2 ^ 64 → is_digit_of 10 (slice_index suf 0) ≡ false → suffix_of suf ≡ Some s → kind_of true s n ≡ Some k
    → 48 < get_or ds 0 0 → list_all is_ascii_digit ds ≡ true → worth_after 10 0 ds ≡ n → number_of (ds ++ suf) ≡ Some (n, k)
unfolding number_of value_of
read_as n ds suf s k small other suffix kind first all worth =
    let r = radix_ten (ds ++ suf) (first_joined ds suf first) in
    let len : prefix_len (is_digit_of 10) (ds ++ suf) ≡ length ds = prefix_front (is_digit_of 10) ds suf (all_weaker is_ascii_digit (is_digit_of 10) ds digit_ten all) other in
    let some : (length ds == 0) ≡ false = nonempty ds first in
    let t = front_taken ds suf in
    let d = dropped ds suf in
    let lt : ltb n (2 ^ 64) ≡ true = lt-ltb n (2 ^ 64) small in
    rw (r, len, some, d, suffix, t, worth, lt, kind) refl

digits_read : (n : ℕ) (ds : List ℕ) (k : Kind) → is_written n k ≡ true → 48 < get_or ds 0 0 → list_all is_ascii_digit ds ≡ true → worth_after 10 0 ds ≡ n
    → number_of (ds ++ marks.suffix_of k) ≡ Some (n, k)
unfolding suffix_of kind_of
digits_read n ds U8 h first all worth = absurd (false≢true h)
digits_read n ds U16 h first all worth = absurd (false≢true h)
digits_read n ds U32 h first all worth = read_as n ds (codes "u") (record { unsigned = true; long = false }) U32 (fits n U32 h) refl refl (rw h refl) first all worth
digits_read n ds U64 h first all worth = read_as n ds (codes "ul") (record { unsigned = true; long = true }) U64 (fits n U64 h) refl refl (rw h refl) first all worth
digits_read n ds S8 h first all worth = absurd (false≢true h)
digits_read n ds S16 h first all worth = absurd (false≢true h)
digits_read n ds S32 h first all worth = read_as n ds [] (record { unsigned = false; long = false }) S32 (fits n S32 h) refl refl (rw h refl) first all worth
digits_read n ds S64 h first all worth = read_as n ds (codes "l") (record { unsigned = false; long = true }) S64 (fits n S64 h) refl refl (rw h refl) first all worth

pub number_back : (n : ℕ) (k : Kind) → is_written n k ≡ true → number_of (number_text n k) ≡ Some (n, k)
number_back zero k h = ap (λ (ds : List ℕ). number_of (ds ++ marks.suffix_of k)) (decimal_digit 0 (omega arith)) ∙ zero_read k h
number_back (suc m) k h =
    let lt = fits (suc m) k h in
    digits_read (suc m) (decimal (suc m)) k h (first_decimal (suc m) (omega arith) lt) (all_digits (suc m) lt) (digits_value-decimal own (suc m) lt)

-- ---- the front

first_digit : (xs ys : List ℕ) → 0 < length xs → list_all is_ascii_digit xs ≡ true → is_ascii_digit (slice_index (xs ++ ys) 0) ≡ true
first_digit [] ys some a = absurd (omega arith)
first_digit (x ∷ xs) ys some a = (both (is_ascii_digit x) (list_all is_ascii_digit xs) a).0

pub number_digit : (n : ℕ) (k : Kind) (rest : List ℕ) → is_written n k ≡ true → is_ascii_digit (slice_index (number_text n k ++ rest) 0) ≡ true
number_digit n k rest h =
    let lt = fits n k h in
    let whole : (decimal n ++ marks.suffix_of k) ++ rest ≡ decimal n ++ (marks.suffix_of k ++ rest) = append_assoc (decimal n) (marks.suffix_of k) rest in
    ap (λ (bs : List ℕ). is_ascii_digit (slice_index bs 0)) whole ∙ first_digit (decimal n) (marks.suffix_of k ++ rest) (decimal_nonempty n lt) (all_digits n lt)

pub number_bytes : (n : ℕ) (k : Kind) → is_written n k ≡ true → list_all is_number_byte (number_text n k) ≡ true
number_bytes n k h = all_joined is_number_byte (decimal n) (marks.suffix_of k) (all_weaker is_ascii_digit is_number_byte (decimal n) digit_in_number (all_digits n (fits n k h))) (suffix_bytes k)

-- the bytes of a number behind its first
pub record Behind (bytes rest : List ℕ) (n : ℕ) (k : Kind) : Type 0 where
  pub more : ℕ
  pub read : (place : Place) → number_at place (bytes ++ rest) ≡ Ok (n, k, more)
  pub whole : 1 + more ≡ length bytes

at_digits : (bs rest : List ℕ) (n : ℕ) (k : Kind) → is_ascii_digit (slice_index (bs ++ []) 0) ≡ true → list_all is_number_byte bs ≡ true → number_of bs ≡ Some (n, k)
    → is_number_byte (slice_index rest 0) ≡ false → Behind bs rest n k
unfolding number_at
at_digits [] rest n k d a e q = absurd (false≢true d)
at_digits (c ∷ cs) rest n k d a e q =
    let len : prefix_len is_number_byte (cs ++ rest) ≡ length cs = prefix_front is_number_byte cs rest (both (is_number_byte c) (list_all is_number_byte cs) a).1 q in
    let t = taken c cs rest in
    record { more = length cs; read = λ place. rw (len, t, e) refl; whole = omega arith }

pub number_behind : (n : ℕ) (k : Kind) (rest : List ℕ) → is_written n k ≡ true → is_number_byte (slice_index rest 0) ≡ false → Behind (number_text n k) rest n k
number_behind n k rest h q = at_digits (number_text n k) rest n k (number_digit n k [] h) (number_bytes n k h) (number_back n k h) q

digit_piece : (is_fresh : Bool) (place : Place) (bytes : List ℕ) → is_ascii_digit (slice_index bytes 0) ≡ true → piece_at is_fresh place bytes ≡ number_piece place bytes
unfolding piece_at
digit_piece is_fresh place bytes d =
    let a = digit_no_space (slice_index bytes 0) d in
    let b = digit_no_letter (slice_index bytes 0) d in
    rw (a, b, d) refl

read_piece : (place : Place) (bytes : List ℕ) (n : ℕ) (k : Kind) (more : ℕ) → number_at place bytes ≡ Ok (n, k, more) → number_piece place bytes ≡ Ok (record { what = Some (Number n k); more = more })
unfolding number_piece
read_piece place bytes n k more e = rw e refl

pub number_front : (n : ℕ) (k : Kind) (rest : List ℕ) → is_written n k ≡ true → is_number_byte (slice_index rest 0) ≡ false → IsFront (token_text (Number n k)) (Some (Number n k)) rest
unfolding token_text
number_front n k rest h q =
    let b = number_behind n k rest h q in
    record {
      more = b.more;
      front = λ is_fresh place. digit_piece is_fresh place (number_text n k ++ rest) (number_digit n k rest h) ∙ read_piece place (number_text n k ++ rest) n k b.more (b.read place);
      whole = b.whole;
    }
