-- A word is an identifier.
use Rattle.std.proofs.Common.{◌≡◌, ℕ, Bool, true, false, List, [], ◌∷◌, refl, arith}
use Rattle.std.specs.Prelude.{◌||◌}
use Rattle.std.specs.List.{list_all}
use Rattle.std.specs.Char.{is_ascii_digit}
use Rattle.mdr_syntax.specs.Bytes.{is_letter, is_name_byte}
use Rattle.mdr_roundtrip.specs.Words.{is_word}
use Rattle.mdr_roundtrip.proofs.Bools.{also}
use Rattle.mdr_sound.proofs.Alike.{left_of, right_of}
use Rattle.mdr_sound.specs.ProperSources.{IsIdentifier}

either : (a b : Bool) → a ≡ true → (a || b) ≡ true
either true b e = refl
either false b e = absurd cc

pub word_is : (name : List ℕ) → is_word name ≡ true → IsIdentifier name
word_is [] h = absurd cc
word_is (b ∷ bs) h = record {
  bytes = also (is_name_byte b) (list_all is_name_byte bs) (either (is_letter b) (is_ascii_digit b) (left_of (is_letter b) (list_all is_name_byte bs) h)) (right_of (is_letter b) (list_all is_name_byte bs) h);
  some = omega arith;
}
