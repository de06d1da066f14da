-- believed
-- The tokens of a text.
use Rattle.std.specs.Prelude.{ℕ, zero, suc, ◌+◌, Bool, true, false, ◌==◌, ◌||◌, List, [], ◌∷◌, ◌++◌, length, take, drop, Option, Some, None, Result, Ok}
use Rattle.std.specs.List.{list_any}
use Rattle.mdr_core.specs.declared.place.Place.{Place}
use Rattle.mdr_syntax.specs.declared.error.LexError.{LexError}
use Rattle.mdr_syntax.specs.declared.token.Lexeme.{Lexeme}
use Rattle.mdr_syntax.specs.declared.token.Lexeme.TheVariants.{End}
use Rattle.mdr_syntax.specs.declared.token.Token.{Token}
use Rattle.mdr_syntax.specs.Places.{place_after, first_place}
use Rattle.mdr_syntax.specs.Gives.{◌>>=◌}
use Rattle.mdr_syntax.specs.Pieces.{piece_at}

-- whether no token stands on the line behind a piece of these bytes
abbrev pub is_fresh_after : Bool → Option Lexeme → List ℕ → Bool
is_fresh_after is_fresh None taken = is_fresh || list_any (λ b. b == 10) taken
is_fresh_after is_fresh (Some what) taken = false

-- the token of a piece, if it is one
abbrev pub tokens_of_piece : Place → Option Lexeme → List Token
tokens_of_piece place None = []
tokens_of_piece place (Some what) = record { place = place; what = what } ∷ []

abbrev pub end_at : Place → List Token
end_at place = record { place = place; what = End } ∷ []

-- piece after piece, at most so many
unfoldable pub tokens_from : ℕ → (is_fresh : Bool) → Place → List ℕ → Result (List Token) LexError
tokens_from most is_fresh place [] = Ok (end_at place)
tokens_from zero is_fresh place (b ∷ bytes) = Ok (end_at place)
tokens_from (suc most) is_fresh place (b ∷ bytes) = do
  piece ← piece_at is_fresh place (b ∷ bytes)
  let taken = take (1 + piece.more) (b ∷ bytes)
  tokens ← tokens_from most (is_fresh_after is_fresh piece.what taken) (place_after place taken) (drop (1 + piece.more) (b ∷ bytes))
  Ok (tokens_of_piece place piece.what ++ tokens)

-- the tokens of a whole text: each piece has a byte at least
unfoldable pub tokens_of : List ℕ → Result (List Token) LexError
tokens_of bytes = tokens_from (length bytes) true first_place bytes
