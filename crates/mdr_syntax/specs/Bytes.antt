-- believed
-- The classes of bytes. 9 is a tab, 10 a newline, 13 a carriage return, 32 a blank, 92 a backslash.
use Rattle.std.specs.Prelude.{ℕ, Bool, ◌==◌, ◌||◌, ◌&&◌, not, nat_le}
use Rattle.std.specs.Char.{is_ascii_alphabetic, is_ascii_digit}

abbrev pub is_blank : ℕ → Bool
is_blank b = b == 32 || b == 9

abbrev pub is_space : ℕ → Bool
is_space b = is_blank b || b == 10 || b == 13

abbrev pub is_letter : ℕ → Bool
is_letter b = is_ascii_alphabetic b || b == 95

abbrev pub is_name_byte : ℕ → Bool
is_name_byte b = is_letter b || is_ascii_digit b

-- what may not follow a number at once
abbrev pub is_number_byte : ℕ → Bool
is_number_byte b = is_name_byte b || b == 46

-- what stands for itself between two quotes
abbrev pub is_plain : (quote : ℕ) → ℕ → Bool
is_plain quote b = nat_le 32 b && nat_le b 126 && not (b == quote) && not (b == 92)

abbrev pub in_line : ℕ → Bool
in_line b = not (b == 10)
