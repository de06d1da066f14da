-- believed
-- Numbers in decimal digits, without a leading zero.
use Rattle.std.specs.Prelude.{ℕ, ◌+◌, ◌-◌, ◌*◌, ◌^◌, Bool, true, false, ◌==◌, ◌&&◌, not, nat_lt, if◌then◌else◌, List, [], ◌∷◌, Option, Some, None}
use Rattle.std.specs.List.{list_all}
use Rattle.std.specs.Char.{is_ascii_digit}

-- what the digits are worth behind a front that is worth so much
abbrev pub worth_after : (front : ℕ) → List ℕ → ℕ
worth_after front [] = front
worth_after front (b ∷ bytes) = worth_after (front * 10 + (b - 48)) bytes

unfoldable pub value_of : List ℕ → Option ℕ
value_of digits = let n = worth_after 0 digits in if nat_lt n (2 ^ 64) then Some n else None

abbrev pub is_canonical : List ℕ → Bool
is_canonical [] = false
is_canonical (a ∷ []) = true
is_canonical (a ∷ b ∷ bytes) = not (a == 48)

-- digits without a leading zero
unfoldable pub is_number : List ℕ → Bool
is_number bytes = list_all is_ascii_digit bytes && is_canonical bytes

unfoldable pub number_of : List ℕ → Option ℕ
number_of bytes = if is_number bytes then value_of bytes else None
