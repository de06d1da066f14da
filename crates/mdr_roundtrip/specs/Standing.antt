-- for proofs
-- Marks whose tokens are apart, by the byte that stands behind them.
use Rattle.std.specs.Prelude.{◌≡◌, ℕ, Bool, true, false, ◌==◌, ◌&&◌, not, List, slice_index}
use Rattle.mdr_syntax.specs.Bytes.{is_name_byte, is_number_byte}
use Rattle.mdr_print.specs.Marks.{Mark, Marks, spell}
use Rattle.mdr_print.specs.Spelled.{AreApart}

-- what may stand behind an expression, and where that ends with a number
abbrev pub stops : (is_number : Bool) → ℕ → Bool
stops false b = not (is_name_byte b) && not (b == 61)
stops true b = not (is_number_byte b) && not (b == 61)

-- the first byte of the text of marks, and 0 where there is none
abbrev pub first : List Mark → ℕ
first marks = slice_index (spell marks) 0

-- apart, in front of what is apart and begins with none of a number's bytes and no `=`
abbrev pub Apart : Marks → Type 0
Apart m = (rest : List Mark) → AreApart rest → stops true (first rest) ≡ true → AreApart (m rest)
