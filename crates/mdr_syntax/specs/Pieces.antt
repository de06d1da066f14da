-- believed
-- What stands at the front of a text: a token, or what separates tokens.
use Rattle.std.specs.Prelude.{ℕ, ◌+◌, ◌-◌, Bool, true, false, ◌==◌, ◌||◌, ◌&&◌, not, if◌then◌else◌, List, [], ◌∷◌, length, take, drop, Option, Some, None, Result, Ok, Err, codes, slice_index}
use Rattle.std.specs.Option.{option_map}
use Rattle.std.specs.List.{prefix_len}
use Rattle.std.specs.Char.{is_ascii_digit}
use Rattle.std.specs.Str.{bytes_eq}
use Rattle.mdr_core.specs.declared.kind.Kind.{Kind}
use Rattle.mdr_core.specs.declared.kind.Kind.TheVariants.{S32}
use Rattle.mdr_core.specs.declared.place.Place.{Place}
use Rattle.mdr_syntax.specs.declared.error.LexError.{LexError}
use Rattle.mdr_syntax.specs.declared.error.LexError.TheVariants.{BadByte, BadNumber, OpenComment, OpenText}
use Rattle.mdr_syntax.specs.declared.token.Lexeme.{Lexeme}
use Rattle.mdr_syntax.specs.declared.token.Lexeme.TheVariants.{Word, Number, Text, Punct, Define}
use Rattle.mdr_syntax.specs.declared.piece.Piece.{Piece}
use Rattle.mdr_syntax.specs.Bytes.{is_blank, is_space, is_letter, is_name_byte, is_number_byte, in_line}
use Rattle.mdr_syntax.specs.Numbers.{number_of}
use Rattle.mdr_syntax.specs.Words.{is_reserved, punctuation_len}
use Rattle.mdr_syntax.specs.Quoted.{character_at, text_from}
use Rattle.mdr_syntax.specs.Gives.{◌>>=◌, or_fault}

-- a token, or none, and how many bytes it has behind its first
abbrev pub token_of : Lexeme → ℕ → Piece
token_of what more = record { what = Some what; more = more }

abbrev pub gap_of : ℕ → Piece
gap_of more = record { what = None; more = more }

unfoldable pub word_at : List ℕ → Piece
word_at bytes = let more = prefix_len is_name_byte (drop 1 bytes) in token_of (Word (take (1 + more) bytes)) more

-- from a digit on: all letters, digits, `_` and `.` belong to it; the number's value, its kind, and how many bytes it has behind its first
unfoldable pub number_at : Place → List ℕ → Result (ℕ × Kind × ℕ) LexError
number_at place bytes =
    let more = prefix_len is_number_byte (drop 1 bytes) in
    or_fault (option_map (λ n. (n.0, n.1, more)) (number_of (take (1 + more) bytes))) (BadNumber place)

unfoldable pub character_piece : Place → List ℕ → Result Piece LexError
character_piece place bytes = or_fault (option_map (λ c. token_of (Number c.0 S32) c.1) (character_at (drop 1 bytes))) (OpenText place)

unfoldable pub text_piece : Place → List ℕ → Result Piece LexError
text_piece place bytes = or_fault (option_map (λ t. token_of (Text t.0) t.1) (text_from false (drop 1 bytes))) (OpenText place)

unfoldable pub punctuation_piece : Place → List ℕ → Result Piece LexError
punctuation_piece place bytes =
    let len = punctuation_len bytes in
    if len == 0 then Err (BadByte place) else Ok (token_of (Punct (take len bytes)) (len - 1))

-- ---- comments

abbrev pub begins_with : ℕ → ℕ → List ℕ → Bool
begins_with a b [] = false
begins_with a b (x ∷ []) = false
begins_with a b (x ∷ y ∷ bytes) = x == a && y == b

-- up to the first `*/` and with it
abbrev pub close_at : List ℕ → Option ℕ
close_at [] = None
close_at (b ∷ bytes) = if begins_with 42 47 (b ∷ bytes) then Some 2 else option_map (λ n. 1 + n) (close_at bytes)

-- from a `/` on
unfoldable pub slash_piece : Place → List ℕ → Result Piece LexError
slash_piece place bytes =
    if begins_with 47 47 bytes then Ok (gap_of (prefix_len in_line (drop 1 bytes)))
    else (if begins_with 47 42 bytes then or_fault (option_map (λ n. gap_of (1 + n)) (close_at (drop 2 bytes))) (OpenComment place)
    else punctuation_piece place bytes)

-- ---- lines that begin with `#`

abbrev pub skip_blanks : List ℕ → List ℕ
skip_blanks bytes = drop (prefix_len is_blank bytes) bytes

abbrev pub begins_letter : List ℕ → Bool
begins_letter [] = false
begins_letter (b ∷ bytes) = is_letter b

abbrev pub begins_digit : List ℕ → Bool
begins_digit [] = false
begins_digit (b ∷ bytes) = is_ascii_digit b

-- a sign, and what stands behind it
abbrev pub sign_at : List ℕ → Bool × List ℕ
sign_at [] = (false, [])
sign_at (b ∷ bytes) = if b == 45 then (true, skip_blanks bytes) else (false, b ∷ bytes)

-- behind `#define`: the name, whether a `-` stands there, and what the number begins
unfoldable pub define_head : List ℕ → Option (List ℕ × Bool × List ℕ)
define_head bytes =
    let start = skip_blanks bytes in
    let len = prefix_len is_name_byte start in
    let name = take len start in
    let signed = sign_at (skip_blanks (drop len start)) in
    if not (begins_letter name) || is_reserved name || not (begins_digit signed.1) then None else Some (name, signed.0, signed.1)

abbrev pub place_right : Place → ℕ → Place
place_right p n = record { line = p.line; column = p.column + n }

-- a line `#define NAME [-] NUMBER`, of which `bytes` stand behind the word, and `len` bytes from the `#` on
unfoldable pub define_piece : Place → (len : ℕ) → List ℕ → Result Piece LexError
define_piece place len bytes = do
  head ← or_fault (define_head bytes) (BadByte place)
  let at = len - length head.2
  number ← number_at (place_right place at) head.2
  Ok (token_of (Define head.0 head.1 number.0 number.1) (at + number.2))

-- from a `#` on: a line of `#include` is skipped where no token stands before it on its line
unfoldable pub directive_piece : (is_fresh : Bool) → Place → List ℕ → Result Piece LexError
directive_piece is_fresh place bytes =
    let rest = drop 1 bytes in
    let len = prefix_len is_name_byte rest in
    if is_fresh && bytes_eq (take len rest) (codes "include") then Ok (gap_of (prefix_len in_line rest))
    else (if bytes_eq (take len rest) (codes "define") then define_piece place (length bytes) (drop len rest)
    else Err (BadByte place))

-- ---- by the first byte

unfoldable pub number_piece : Place → List ℕ → Result Piece LexError
number_piece place bytes = do
  n ← number_at place bytes
  Ok (token_of (Number n.0 n.1) n.2)

-- the piece at the front of a text that isn't empty, where is_fresh says that no token stands before it on its line
unfoldable pub piece_at : (is_fresh : Bool) → Place → List ℕ → Result Piece LexError
piece_at is_fresh place bytes =
    let b = slice_index bytes 0 in
    if is_space b then Ok (gap_of 0)
    else (if is_letter b then Ok (word_at bytes)
    else (if is_ascii_digit b then number_piece place bytes
    else (if b == 39 then character_piece place bytes
    else (if b == 34 then text_piece place bytes
    else (if b == 47 then slash_piece place bytes
    else (if b == 35 then directive_piece is_fresh place bytes
    else punctuation_piece place bytes))))))
