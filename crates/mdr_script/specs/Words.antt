-- believed
-- The words of a line. 32 is a blank, 9 a tab, 44 a comma, 35 is `#`.
use Rattle.std.specs.Prelude.{ℕ, ◌-◌, Bool, false, ◌==◌, ◌&&◌, not, nat_lt, if◌then◌else◌, List, [], ◌∷◌, length, take, drop, Option, Some, slice_index}
use Rattle.std.specs.List.{prefix_len, list_all}
use Rattle.mdr_syntax.specs.Bytes.{is_blank, is_name_byte}
use Rattle.mdr_syntax.specs.Pieces.{begins_letter, skip_blanks}
use Rattle.mdr_script.specs.Gives.{when}

abbrev pub is_word_byte : ℕ → Bool
is_word_byte b = not (is_blank b)

abbrev pub word_len : List ℕ → ℕ
word_len bytes = prefix_len is_word_byte bytes

-- the first word, which is empty where there is none, and what stands behind it
unfoldable pub word_at : List ℕ → List ℕ × List ℕ
word_at bytes = let start = skip_blanks bytes in (take (word_len start) start, drop (word_len start) start)

abbrev pub is_empty : List ℕ → Bool
is_empty bytes = length bytes == 0

-- there is no further word
unfoldable pub ends : List ℕ → Bool
ends bytes = is_empty (word_at bytes).0

-- a comma stands behind other bytes
abbrev pub ends_comma : List ℕ → Bool
ends_comma word = nat_lt 1 (length word) && (slice_index word (length word - 1) == 44)

abbrev pub piece_len : List ℕ → ℕ
piece_len word = if ends_comma word then length word - 1 else length word

-- the same, where a comma at a word's end is a word of its own
unfoldable pub piece_at : List ℕ → List ℕ × List ℕ
piece_at bytes =
    let start = skip_blanks bytes in
    let len = piece_len (word_at bytes).0 in
    (take len start, drop len start)

abbrev pub begins_hash : List ℕ → Bool
begins_hash [] = false
begins_hash (b ∷ bytes) = b == 35

-- a letter or `_`, then letters, digits and `_`
unfoldable pub is_name : List ℕ → Bool
is_name word = begins_letter word && list_all is_name_byte word

unfoldable pub name_of : List ℕ → Option (List ℕ)
name_of word = when (is_name word) (Some word)
