-- for proofs
-- A text as its tokens and what separates them, in their order.
use Rattle.std.specs.Prelude.{◌≡◌, ℕ, ◌+◌, Bool, List, [], ◌∷◌, ◌++◌, take, Option, Ok}
use Rattle.mdr_core.specs.declared.place.Place.{Place}
use Rattle.mdr_syntax.specs.declared.token.Lexeme.{Lexeme}
use Rattle.mdr_syntax.specs.declared.token.Token.{Token}
use Rattle.mdr_syntax.specs.Places.{place_after}
use Rattle.mdr_syntax.specs.Pieces.{piece_at}
use Rattle.mdr_syntax.specs.Tokens.{is_fresh_after, tokens_of_piece, end_at}

-- bytes that stand together, and the token that they are, if they are one
pub record Part : Type 0 where
  pub bytes : List ℕ
  pub what : Option Lexeme

abbrev pub joined : List Part → List ℕ
joined [] = []
joined (p ∷ ps) = p.bytes ++ joined ps

-- the tokens with their places, from this place on, and the end
abbrev pub placed : Place → List Part → List Token
placed place [] = end_at place
placed place (p ∷ ps) = tokens_of_piece place p.what ++ placed (place_after place p.bytes) ps

-- the part stands at the front of what begins with it: these bytes and no more
pub record IsFront (is_fresh : Bool) (place : Place) (p : Part) (rest : List ℕ) : Type 0 where
  pub more : ℕ
  pub front : piece_at is_fresh place (p.bytes ++ rest) ≡ Ok (record { what = p.what; more = more })
  pub bytes : p.bytes ≡ take (1 + more) (p.bytes ++ rest)

abbrev pub AreParts : (is_fresh : Bool) → Place → List Part → Type 0
AreParts is_fresh place [] = Unit {0}
AreParts is_fresh place (p ∷ ps) = IsFront is_fresh place p (joined ps) × AreParts (is_fresh_after is_fresh p.what p.bytes) (place_after place p.bytes) ps

-- the text from a place on is these parts, and these are its tokens
pub record IsSplit (is_fresh : Bool) (place : Place) (bytes : List ℕ) (ts : List Token) : Type 0 where
  pub parts : List Part
  pub whole : bytes ≡ joined parts
  pub each : AreParts is_fresh place parts
  pub tokens : ts ≡ placed place parts
