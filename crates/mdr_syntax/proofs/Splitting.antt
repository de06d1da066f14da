-- The tokens of a text and what separates them, joined, are the text.
use Rattle.std.proofs.Common.{◌≡◌, ℕ, zero, suc, Bool, true, Result, Ok, Err, ◌+◌, ◌≤◌, List, [], ◌∷◌, ◌++◌, length, take, drop, refl, sym, ap, ◌∙◌, arith, length-drop}
use Rattle.std.proofs.lemmas.List.{take-append-drop}
use Rattle.mdr_core.specs.declared.place.Place.{Place}
use Rattle.mdr_syntax.specs.declared.error.LexError.{LexError}
use Rattle.mdr_syntax.specs.declared.token.Token.{Token}
use Rattle.mdr_syntax.specs.declared.piece.Piece.{Piece}
use Rattle.mdr_syntax.specs.Places.{place_after, first_place}
use Rattle.mdr_syntax.specs.Gives.{◌>>=◌}
use Rattle.mdr_syntax.specs.Pieces.{piece_at}
use Rattle.mdr_syntax.specs.Tokens.{is_fresh_after, tokens_of_piece, end_at, tokens_from, tokens_of}
use Rattle.mdr_syntax.specs.Parts.{Part, joined, IsSplit}

bind_ok : {A B : Type 0} (r : Result A LexError) (f : A → Result B LexError) (y : B) → (r >>= f) ≡ Ok y → (x : A) × (r ≡ Ok x) × (f x ≡ Ok y)
bind_ok (Ok x) f y e = (x, refl, e)
bind_ok (Err d) f y e = absurd cc

abbrev done : {A : Type 0} → A → Result A LexError
done x = Ok x

ok_is : {A : Type 0} (x y : A) → done x ≡ done y → x ≡ y
ok_is x y e = cc

-- a piece in front of a text that is split
with_part : (is_fresh : Bool) (place : Place) (bytes : List ℕ) (piece : Piece) (more ts : List Token) → piece_at is_fresh place bytes ≡ Ok piece
    → IsSplit (is_fresh_after is_fresh piece.what (take (1 + piece.more) bytes)) (place_after place (take (1 + piece.more) bytes)) (drop (1 + piece.more) bytes) more
    → ts ≡ tokens_of_piece place piece.what ++ more → IsSplit is_fresh place bytes ts
with_part is_fresh place bytes piece more ts here s e =
    let taken = take (1 + piece.more) bytes in
    let p : Part = record { bytes = taken; what = piece.what } in
    let cut : taken ++ joined s.parts ≡ bytes = ap (λ (rest : List ℕ). taken ++ rest) (sym s.whole) ∙ take-append-drop (1 + piece.more) bytes in
    record {
      parts = p ∷ s.parts;
      whole = sym cut;
      each = (record { more = piece.more; front = rw cut here; bytes = rw cut refl }, s.each);
      tokens = e ∙ ap (λ (us : List Token). tokens_of_piece place piece.what ++ us) s.tokens;
    }

splits : (most : ℕ) (is_fresh : Bool) (place : Place) (bytes : List ℕ) (ts : List Token) → length bytes ≤ most → tokens_from most is_fresh place bytes ≡ Ok ts → IsSplit is_fresh place bytes ts
unfolding tokens_from
splits most is_fresh place [] ts le e = record { parts = []; whole = refl; each = tt; tokens = sym (ok_is (end_at place) ts e) }
splits zero is_fresh place (b ∷ bytes) ts le e = absurd (omega arith)
splits (suc most) is_fresh place (b ∷ bytes) ts le e =
    let whole : List ℕ = b ∷ bytes in
    let next : Piece → Result (List Token) LexError = λ piece. tokens_from most (is_fresh_after is_fresh piece.what (take (1 + piece.more) whole)) (place_after place (take (1 + piece.more) whole)) (drop (1 + piece.more) whole) >>= λ tokens. Ok (tokens_of_piece place piece.what ++ tokens) in
    let a = bind_ok (piece_at is_fresh place whole) next ts e in
    let piece = a.0 in
    let d = bind_ok (tokens_from most (is_fresh_after is_fresh piece.what (take (1 + piece.more) whole)) (place_after place (take (1 + piece.more) whole)) (drop (1 + piece.more) whole)) (λ tokens. Ok (tokens_of_piece place piece.what ++ tokens)) ts a.2 in
    let shorter : length (drop (1 + piece.more) whole) ≤ most = omega (arith, length-drop (1 + piece.more) whole, le) in
    with_part is_fresh place whole piece d.0 ts a.1 (splits most (is_fresh_after is_fresh piece.what (take (1 + piece.more) whole)) (place_after place (take (1 + piece.more) whole)) (drop (1 + piece.more) whole) d.0 shorter d.1) (sym (ok_is (tokens_of_piece place piece.what ++ d.0) ts d.2))

pub is_split : (bytes : List ℕ) (ts : List Token) → tokens_of bytes ≡ Ok ts → IsSplit true first_place bytes ts
unfolding tokens_of
is_split bytes ts e = splits (length bytes) true first_place bytes ts (omega arith) e
