-- Marks whose tokens are apart, by what stands behind them.
use Rattle.std.proofs.Common.{◌≡◌, ℕ, zero, suc, Bool, true, false, List, [], ◌∷◌, ◌++◌, refl, sym, subst, codes, arith}
use Rattle.std.specs.Prelude.{◌==◌, ◌||◌, ◌&&◌, not, slice_index}
use Rattle.std.specs.List.{AllByRecursion, list_all}
use Rattle.std.specs.Char.{is_ascii_digit}
use Rattle.std.proofs.lemmas.Bool.{false≢true, eqb-true}
use Rattle.mdr_core.specs.declared.kind.Kind.{Kind}
use Rattle.mdr_core.specs.declared.kind.Kind.TheVariants.{U8, U16, U32, U64, S8, S16, S32, S64}
use Rattle.mdr_syntax.specs.declared.token.Lexeme.TheVariants.{Punct}
use Rattle.mdr_syntax.specs.declared.tree.Base.{Base}
use Rattle.mdr_syntax.specs.declared.tree.Base.TheVariants as base
use Rattle.mdr_syntax.specs.Bytes.{is_letter, is_name_byte, is_number_byte}
use Rattle.mdr_print.specs.Marks.{Mark, Is, Blank, Marks, spell, token_text, number_text, separated}
use Rattle.mdr_print.specs.Types.{kind_name, base_name, stars, type_name}
use Rattle.mdr_print.specs.Spelled.{AreApart}
use Rattle.mdr_roundtrip.specs.Words.{is_word, is_written, is_base}
use Rattle.mdr_roundtrip.specs.Standing.{stops, first, Apart}
use Rattle.mdr_roundtrip.proofs.Tests.{both, or_right, not_true}
use Rattle.mdr_roundtrip.proofs.WordFronts.{word_front}
use Rattle.mdr_roundtrip.proofs.NumberFronts.{number_digit}
use Rattle.mdr_roundtrip.proofs.SignFronts.{opens, star_front, comma_front}

-- ---- what stands behind

split : (x y z : Bool) → (not (x || y) && z) ≡ true → (not x && z) ≡ true
split true y z e = e
split false true z e = absurd (false≢true e)
split false false z e = e

pub stops_any : (n : Bool) (b : ℕ) → stops true b ≡ true → stops n b ≡ true
stops_any true b h = h
stops_any false b h = split (is_name_byte b) (b == 46) (not (b == 61)) h

pub no_name : (b : ℕ) → stops false b ≡ true → is_name_byte b ≡ false
no_name b h = not_true (is_name_byte b) (both (not (is_name_byte b)) (not (b == 61)) h).0

pub no_number : (b : ℕ) → stops true b ≡ true → is_number_byte b ≡ false
no_number b h = not_true (is_number_byte b) (both (not (is_number_byte b)) (not (b == 61)) h).0

pub no_equals : (b : ℕ) → stops false b ≡ true → (61 == b) ≡ false
no_equals b h = on (61 == b) refl (not_true (b == 61) (both (not (is_name_byte b)) (not (b == 61)) h).1)
  where
    on : (t : Bool) → (61 == b) ≡ t → (b == 61) ≡ false → t ≡ false
    on false e n = refl
    on true e n = absurd (false≢true (sym (subst (λ (y : ℕ). (y == 61) ≡ false) (sym (eqb-true 61 b e)) n)))

-- ---- what stands first

pub word_opens : (name rest : List ℕ) → is_word name ≡ true → opens (slice_index (name ++ rest) 0) ≡ true
word_opens [] rest h = absurd (false≢true h)
word_opens (b ∷ bs) rest h = let l : is_letter b ≡ true = (both (is_letter b) (list_all is_name_byte bs) h).0 in rw l refl

pub number_opens : (n : ℕ) (k : Kind) (rest : List ℕ) → is_written n k ≡ true → opens (slice_index (number_text n k ++ rest) 0) ≡ true
number_opens n k rest h =
    let b = slice_index (number_text n k ++ rest) 0 in
    let d : is_ascii_digit b ≡ true = number_digit n k rest h in
    or_right (is_letter b) (is_ascii_digit b || ((b == 34) || (b == 40))) (rw d refl)

-- ---- lists

starts : (ms : List Marks) (rest : List Mark) → stops true (first rest) ≡ true → stops true (first (separated false ms rest)) ≡ true
unfolding spell token_text
starts [] rest q = q
starts (m ∷ ms) rest q = refl

pub comma_then : (marks : List Mark) → AreApart marks → AreApart (Is (Punct (codes ",")) ∷ Blank ∷ marks)
unfolding token_text
comma_then marks b = (comma_front (spell (Blank ∷ marks)), b)

pub separated_apart : (ms : List Marks) → AllByRecursion Apart ms → (is_first : Bool) → Apart (separated is_first ms)
separated_apart [] h is_first rest a q = a
separated_apart (m ∷ ms) h true rest a q = h.0 (separated false ms rest) (separated_apart ms h.1 false rest a q) (starts ms rest q)
separated_apart (m ∷ ms) h false rest a q = comma_then (m (separated false ms rest)) (h.0 (separated false ms rest) (separated_apart ms h.1 false rest a q) (starts ms rest q))

-- ---- types

kind_word : (k : Kind) → is_word (kind_name k) ≡ true
kind_word U8 = refl
kind_word U16 = refl
kind_word U32 = refl
kind_word U64 = refl
kind_word S8 = refl
kind_word S16 = refl
kind_word S32 = refl
kind_word S64 = refl

pub base_apart : (b : Base) → is_base b ≡ true → (rest : List Mark) → AreApart rest → is_name_byte (first rest) ≡ false → AreApart (base_name b rest)
unfolding spell token_text
base_apart (base.Int k) h rest a e = (word_front (kind_name k) (spell rest) (kind_word k) e, a)
base_apart (base.Struct place name) h rest a e = (word_front (codes "struct") (32 ∷ (name ++ spell rest)) refl refl, (word_front name (spell rest) h e, a))
base_apart base.Void h rest a e = (word_front (codes "void") (spell rest) refl e, a)
base_apart base.Lock h rest a e = (word_front (codes "combolock_t") (spell rest) refl e, a)

pub base_opens : (b : Base) → is_base b ≡ true → (rest : List Mark) → opens (first (base_name b rest)) ≡ true
unfolding spell token_text
base_opens (base.Int k) h rest = word_opens (kind_name k) (spell rest) (kind_word k)
base_opens (base.Struct place name) h rest = refl
base_opens base.Void h rest = refl
base_opens base.Lock h rest = refl

pub stars_first : (n : ℕ) (rest : List Mark) → (61 == first rest) ≡ false → (61 == first (stars n rest)) ≡ false
unfolding spell token_text
stars_first zero rest e = e
stars_first (suc n) rest e = refl

pub stars_apart : (n : ℕ) (rest : List Mark) → AreApart rest → (61 == first rest) ≡ false → AreApart (stars n rest)
unfolding token_text
stars_apart zero rest a e = a
stars_apart (suc n) rest a e = (star_front (spell (stars n rest)) (stars_first n rest e), stars_apart n rest a e)

pub suc_not_zero : (n : ℕ) → (suc n == 0) ≡ false
suc_not_zero n = on (suc n == 0) refl
  where
    on : (t : Bool) → (suc n == 0) ≡ t → t ≡ false
    on false e = refl
    on true e = absurd (omega (arith, eqb-true (suc n) 0 e))

pub type_apart : (b : Base) (n : ℕ) → is_base b ≡ true → (rest : List Mark) → AreApart rest → stops false (first rest) ≡ true → AreApart (type_name b n rest)
unfolding spell
type_apart b zero h rest a q = base_apart b h rest a (no_name (first rest) q)
type_apart b (suc n) h rest a q =
    let e = suc_not_zero n in
    rw e (base_apart b h (Blank ∷ stars (suc n) rest) (stars_apart (suc n) rest a (no_equals (first rest) q)) refl)
