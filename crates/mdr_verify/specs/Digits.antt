-- protocol
-- Bytes in pairs of hexadecimal digits, in lower case. 48 is `0`, 97 is `a`.
use Rattle.std.specs.Prelude.{ℕ, ◌+◌, ◌-◌, ◌*◌, ◌%◌, ◌==◌, ◌&&◌, ◌||◌, Bool, nat_le, if◌then◌else◌, List, [], ◌∷◌, length, Option, Some, None}
use Rattle.std.specs.List.{list_all}

-- what a digit is worth
abbrev pub worth : ℕ → ℕ
worth b = if nat_le 48 b && nat_le b 57 then b - 48 else (if nat_le 97 b && nat_le b 102 then b - 87 else 0)

abbrev pub is_digit : ℕ → Bool
is_digit b = (nat_le 48 b && nat_le b 57) || (nat_le 97 b && nat_le b 102)

abbrev pub are_pairs : List ℕ → Bool
are_pairs digits = (length digits % 2 == 0) && list_all is_digit digits

-- what each pair is worth
unfoldable pub bytes_of : List ℕ → List ℕ
bytes_of [] = []
bytes_of (a ∷ []) = []
bytes_of (a ∷ b ∷ digits) = (worth a * 16 + worth b) ∷ bytes_of digits

abbrev pub message_of : List ℕ → Option (List ℕ)
message_of digits = if are_pairs digits then Some (bytes_of digits) else None
