-- The front of a text that is a word.
use Rattle.std.proofs.Common.{◌≡◌, ℕ, Bool, true, false, Some, Ok, List, [], ◌∷◌, ◌++◌, length, refl, arith}
use Rattle.std.specs.Prelude.{slice_index}
use Rattle.std.specs.List.{list_all, prefix_len}
use Rattle.std.proofs.lemmas.Bool.{false≢true}
use Rattle.mdr_core.specs.declared.place.Place.{Place}
use Rattle.mdr_syntax.specs.declared.token.Lexeme.TheVariants.{Word}
use Rattle.mdr_syntax.specs.Bytes.{is_space, is_letter, is_name_byte}
use Rattle.mdr_syntax.specs.Pieces.{word_at, piece_at}
use Rattle.mdr_print.specs.Spelled.{IsFront}
use Rattle.mdr_roundtrip.specs.Words.{is_word}
use Rattle.mdr_roundtrip.proofs.Tests.{both, not_when, prefix_front, taken}

pub letter_no_space : (b : ℕ) → is_letter b ≡ true → is_space b ≡ false
letter_no_space b h =
    let a = not_when is_letter b 32 h refl in
    let c = not_when is_letter b 9 h refl in
    let d = not_when is_letter b 10 h refl in
    let e = not_when is_letter b 13 h refl in
    rw (a, c, d, e) refl

word_piece : (b : ℕ) (bs rest : List ℕ) → is_letter b ≡ true → prefix_len is_name_byte (bs ++ rest) ≡ length bs → (is_fresh : Bool) (place : Place)
    → piece_at is_fresh place (b ∷ (bs ++ rest)) ≡ Ok (record { what = Some (Word (b ∷ bs)); more = length bs })
unfolding piece_at word_at
word_piece b bs rest l n is_fresh place =
    let s : is_space b ≡ false = letter_no_space b l in
    let t = taken b bs rest in
    rw (s, l, n, t) refl

pub word_front : (name rest : List ℕ) → is_word name ≡ true → is_name_byte (slice_index rest 0) ≡ false → IsFront name (Some (Word name)) rest
word_front [] rest w e = absurd (false≢true w)
word_front (b ∷ bs) rest w e =
    let h = both (is_letter b) (list_all is_name_byte bs) w in
    record { more = length bs; front = λ is_fresh place. word_piece b bs rest h.0 (prefix_front is_name_byte bs rest h.1 e) is_fresh place; whole = omega arith }
