-- believed
-- Numbers, and the ranges in which they lie. 45 is `-`, 48 is `0`, 120 is `x`.
use Rattle.std.specs.Prelude.{ℕ, ◌-◌, ◌^◌, min, Bool, true, false, ◌==◌, ◌&&◌, not, nat_lt, nat_le, if◌then◌else◌, List, [], ◌∷◌, Option, Some, None, ℤ, pos, neg_ℤ}
use Rattle.std.specs.List.{list_all}
use Rattle.mdr_syntax.specs.Numbers.{is_digit_of, worth_after}
use Rattle.mdr_script.specs.Gives.{◌>>=◌, when, Read}
use Rattle.mdr_script.specs.Words.{is_empty, piece_at}

-- what digits are worth; what 128 bits don't hold counts as the greatest number that they hold, which no place takes
unfoldable pub value_of : (radix : ℕ) → List ℕ → ℕ
value_of radix digits = min (worth_after radix 0 digits) (2 ^ 128 - 1)

abbrev pub hex_digits : List ℕ → Option (List ℕ)
hex_digits [] = None
hex_digits (a ∷ []) = None
hex_digits (a ∷ b ∷ digits) = if a == 48 && b == 120 then Some digits else None

-- there is a first digit, which is no zero before others
abbrev pub is_canonical : List ℕ → Bool
is_canonical [] = false
is_canonical (a ∷ []) = true
is_canonical (a ∷ b ∷ digits) = not (a == 48)

unfoldable pub hexadecimal_of : List ℕ → Option ℕ
hexadecimal_of digits = when (not (is_empty digits) && list_all (is_digit_of 16) digits) (Some (value_of 16 digits))

unfoldable pub decimal_of : List ℕ → Option ℕ
decimal_of digits = when (is_canonical digits && list_all (is_digit_of 10) digits) (Some (value_of 10 digits))

abbrev pub number_by : Option (List ℕ) → List ℕ → Option ℕ
number_by (Some digits) word = hexadecimal_of digits
number_by None word = decimal_of word

-- decimal digits without a leading zero, or `0x` and hexadecimal digits
unfoldable pub number_of : List ℕ → Option ℕ
number_of word = number_by (hex_digits word) word

-- a number in its range. Where any number will do, another one counts as the least of these.
unfoldable pub fitted : (any : Bool) → (low high : ℕ) → ℕ → Option ℕ
fitted any low high n = if nat_le low n && nat_le n high then Some n else when any (Some low)

unfoldable pub number_in : (any : Bool) → (low high : ℕ) → List ℕ → Read ℕ
number_in any low high bytes = do
  n ← number_of (piece_at bytes).0
  m ← fitted any low high n
  Some (m, (piece_at bytes).1)

-- a register
abbrev pub reg_at : (any : Bool) → List ℕ → Read ℕ
reg_at any bytes = number_in any 0 4095 bytes

-- a word of 32 bits
abbrev pub value_at : (any : Bool) → List ℕ → Read ℕ
value_at any bytes = number_in any 0 (2 ^ 32 - 1) bytes

-- a count-down
abbrev pub count_at : (any : Bool) → List ℕ → Read ℕ
count_at any bytes = number_in any 0 15 bytes

-- how many ticks a count-down has
abbrev pub ticks_at : (any : Bool) → List ℕ → Read ℕ
ticks_at any bytes = number_in any 1 (2 ^ 32 - 1) bytes

-- which of all allocations or ticks
abbrev pub which_at : (any : Bool) → List ℕ → Read ℕ
which_at any bytes = number_in any 1 (2 ^ 64 - 1) bytes

-- how many ticks are idle
abbrev pub idle_at : (any : Bool) → List ℕ → Read ℕ
idle_at any bytes = number_in any 1 100000000 bytes

-- ---- integers of 128 bits

abbrev pub positive : (any : Bool) → ℕ → Option ℤ
positive any n = if nat_lt n (2 ^ 127) then Some (pos n) else when any (Some (pos 0))

abbrev pub negative : (any : Bool) → ℕ → Option ℤ
negative any n = if nat_le n (2 ^ 127) then Some (neg_ℤ (pos n)) else when any (Some (pos 0))

unfoldable pub positive_of : (any : Bool) → List ℕ → Option ℤ
positive_of any word = number_of word >>= positive any

unfoldable pub negative_of : (any : Bool) → List ℕ → Option ℤ
negative_of any word = number_of word >>= negative any

-- a number with or without a sign
unfoldable pub integer_of : (any : Bool) → List ℕ → Option ℤ
integer_of any [] = None
integer_of any (b ∷ word) = if b == 45 then negative_of any word else positive_of any (b ∷ word)
