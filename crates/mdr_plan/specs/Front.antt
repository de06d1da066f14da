-- protocol
-- What stands at the front of a text.
use Rattle.std.specs.Prelude.{ℕ, ◌==◌, if◌then◌else◌, List, [], ◌∷◌, take, drop, Option, Some, None}
use Rattle.std.specs.List.{prefix_len}
use Rattle.mdr_syntax.specs.Bytes.{is_name_byte}

-- what stands behind these bytes, where the text begins with them
abbrev pub strip : (front : List ℕ) → List ℕ → Option (List ℕ)
strip [] bytes = Some bytes
strip (f ∷ front) [] = None
strip (f ∷ front) (b ∷ bytes) = if f == b then strip front bytes else None

-- the word at the front, which may be empty, and what stands behind it
unfoldable pub word_at : List ℕ → List ℕ × List ℕ
word_at bytes = let len = prefix_len is_name_byte bytes in (take len bytes, drop len bytes)
