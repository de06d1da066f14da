-- Marks that are apart are read as their tokens.
use Rattle.std.proofs.Common.{◌≡◌, ℕ, zero, suc, Bool, true, Option, Some, None, Result, Ok, ◌+◌, ◌<◌, ◌≤◌, List, [], ◌∷◌, ◌++◌, length, take, drop, refl, ap, ◌∙◌, arith, length-append}
use Rattle.mdr_core.specs.declared.place.Place.{Place}
use Rattle.mdr_syntax.specs.declared.error.LexError.{LexError}
use Rattle.mdr_syntax.specs.declared.token.Lexeme.{Lexeme}
use Rattle.mdr_syntax.specs.declared.token.Token.{Token}
use Rattle.mdr_syntax.specs.declared.piece.Piece.{Piece}
use Rattle.mdr_syntax.specs.Places.{place_after, first_place}
use Rattle.mdr_syntax.specs.Gives.{◌>>=◌}
use Rattle.mdr_syntax.specs.Bytes.{is_space}
use Rattle.mdr_syntax.specs.Pieces.{piece_at}
use Rattle.mdr_syntax.specs.Tokens.{is_fresh_after, tokens_of_piece, end_at, tokens_from, tokens_of}
use Rattle.mdr_print.specs.Marks.{Mark, Is, Blank, Tab, Newline, spell, token_text}
use Rattle.mdr_print.specs.Spelled.{IsFront, AreApart, GivesLexemes, lexemes}

-- what is read behind a piece
abbrev behind : ℕ → Bool → Place → List ℕ → Piece → Result (List Token) LexError
behind most is_fresh place bytes piece = tokens_from most (is_fresh_after is_fresh piece.what (take (1 + piece.more) bytes)) (place_after place (take (1 + piece.more) bytes)) (drop (1 + piece.more) bytes)

step : (most : ℕ) (is_fresh : Bool) (place : Place) (bytes : List ℕ) → 0 < length bytes
    → tokens_from (suc most) is_fresh place bytes ≡ piece_at is_fresh place bytes >>= λ piece. behind most is_fresh place bytes piece >>= λ ts. Ok (tokens_of_piece place piece.what ++ ts)
unfolding tokens_from
step most is_fresh place [] h = absurd (omega arith)
step most is_fresh place (b ∷ bytes) h = refl

none_left : (most : ℕ) (is_fresh : Bool) (place : Place) → tokens_from most is_fresh place [] ≡ Ok (end_at place)
unfolding tokens_from
none_left most is_fresh place = refl

positive : (most n : ℕ) → 0 < n → n ≤ most → (m : ℕ) × (most ≡ suc m)
positive zero n h le = absurd (omega arith)
positive (suc m) n h le = (m, refl)

front_taken : (bytes rest : List ℕ) → take (length bytes) (bytes ++ rest) ≡ bytes
front_taken [] rest = refl
front_taken (b ∷ bytes) rest = ap (λ (bs : List ℕ). b ∷ bs) (front_taken bytes rest)

front_dropped : (bytes rest : List ℕ) → drop (length bytes) (bytes ++ rest) ≡ rest
front_dropped [] rest = refl
front_dropped (b ∷ bytes) rest = front_dropped bytes rest

-- the lexemes of a piece in front of others
abbrev also : Option Lexeme → List Lexeme → List Lexeme
also None all = all
also (Some what) all = what ∷ all

add_piece : (place : Place) (what : Option Lexeme) (read : Result (List Token) LexError) (all : List Lexeme) → GivesLexemes read all
    → GivesLexemes (read >>= λ ts. Ok (tokens_of_piece place what ++ ts)) (also what all)
add_piece place None read all g = record { tokens = g.tokens; is_read = rw g.is_read refl; are = g.are }
add_piece place (Some what) read all g = record { tokens = record { place = place; what = what } ∷ g.tokens; is_read = rw g.is_read refl; are = ap (λ (ws : List Lexeme). what ∷ ws) g.are }

one_piece : (most : ℕ) (is_fresh : Bool) (place : Place) (bytes : List ℕ) (what : Option Lexeme) (rest : List ℕ) (all : List Lexeme)
    → IsFront bytes what rest
    → GivesLexemes (tokens_from most (is_fresh_after is_fresh what bytes) (place_after place bytes) rest) all
    → GivesLexemes (tokens_from (suc most) is_fresh place (bytes ++ rest)) (also what all)
one_piece most is_fresh place bytes what rest all f g =
    let some : 0 < length (bytes ++ rest) = omega (arith, f.whole, length-append bytes rest) in
    let taken : take (1 + f.more) (bytes ++ rest) ≡ bytes = ap (λ (n : ℕ). take n (bytes ++ rest)) f.whole ∙ front_taken bytes rest in
    let left : drop (1 + f.more) (bytes ++ rest) ≡ rest = ap (λ (n : ℕ). drop n (bytes ++ rest)) f.whole ∙ front_dropped bytes rest in
    rw (step most is_fresh place (bytes ++ rest) some, f.front is_fresh place, taken, left) (add_piece place what _ all g)

-- a byte between tokens
space_piece : (b : ℕ) (rest : List ℕ) → is_space b ≡ true → (is_fresh : Bool) (place : Place) → piece_at is_fresh place (b ∷ rest) ≡ Ok (record { what = None; more = 0 })
unfolding piece_at
space_piece b rest is is_fresh place = rw is refl

space_front : (b : ℕ) (rest : List ℕ) → is_space b ≡ true → IsFront (b ∷ []) None rest
space_front b rest is = record { more = 0; front = space_piece b rest is; whole = refl }

-- a piece, where what stands behind it is read
with_front : (bytes : List ℕ) (what : Option Lexeme) (marks : List Mark) → IsFront bytes what (spell marks)
    → ((most : ℕ) (is_fresh : Bool) (place : Place) → length (spell marks) ≤ most → GivesLexemes (tokens_from most is_fresh place (spell marks)) (lexemes marks))
    → (most : ℕ) (is_fresh : Bool) (place : Place) → length (bytes ++ spell marks) ≤ most → GivesLexemes (tokens_from most is_fresh place (bytes ++ spell marks)) (also what (lexemes marks))
with_front bytes what marks f reads most is_fresh place le =
    let whole = length-append bytes (spell marks) in
    let m = positive most (length (bytes ++ spell marks)) (omega (arith, f.whole, whole)) le in
    rw m.1 (one_piece m.0 is_fresh place bytes what (spell marks) (lexemes marks) f
    (reads m.0 (is_fresh_after is_fresh what bytes) (place_after place bytes) (omega (arith, f.whole, whole, m.1, le))))

pub reads_marks : (marks : List Mark) → AreApart marks → (most : ℕ) (is_fresh : Bool) (place : Place) → length (spell marks) ≤ most → GivesLexemes (tokens_from most is_fresh place (spell marks)) (lexemes marks)
unfolding spell
reads_marks [] a most is_fresh place le = record { tokens = end_at place; is_read = none_left most is_fresh place; are = refl }
reads_marks (Is token ∷ marks) a most is_fresh place le = with_front (token_text token) (Some token) marks a.0 (reads_marks marks a.1) most is_fresh place le
reads_marks (Blank ∷ marks) a most is_fresh place le = with_front (32 ∷ []) None marks (space_front 32 (spell marks) refl) (reads_marks marks a) most is_fresh place le
reads_marks (Tab ∷ marks) a most is_fresh place le = with_front (9 ∷ []) None marks (space_front 9 (spell marks) refl) (reads_marks marks a) most is_fresh place le
reads_marks (Newline ∷ marks) a most is_fresh place le = with_front (10 ∷ []) None marks (space_front 10 (spell marks) refl) (reads_marks marks a) most is_fresh place le

pub reads_tree : (marks : List Mark) → AreApart marks → GivesLexemes (tokens_of (spell marks)) (lexemes marks)
unfolding tokens_of
reads_tree marks a = reads_marks marks a (length (spell marks)) true first_place (omega arith)
