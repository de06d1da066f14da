-- believed
-- The text of a `printk`: its bytes, with each directive's number in its place.
use Rattle.std.specs.Prelude.{ℕ, false, ◌==◌, List, [], ◌∷◌, ◌++◌, take, ℤ, pos, unsigned_abs}
use Rattle.std.specs.Fmt.{decimal, digits, signed_decimal}
use Rattle.std.specs.Int.{int_rem_euclid}
use Rattle.mdr_core.specs.Services.{Reading, Plain, Percent, Long}
use Rattle.mdr_core.specs.Layout.{chosen}
use Rattle.mdr_meaning.specs.declared.wire.Wire.{Wire}
use Rattle.mdr_meaning.specs.Values.{first_of, integer, natural_of, rest_of, saturated_u64}

-- a number by its directive's letter: `d`, `c` (its low byte), `x`, else `u`; these two print one of 64 bits
abbrev pub shown : (letter : ℕ) → ℤ → List ℕ
shown letter n = chosen (letter == 100) (signed_decimal n) (chosen (letter == 99) (unsigned_abs (int_rem_euclid n (pos 256)) ∷ []) (chosen (letter == 120) (digits 16 false (saturated_u64 (natural_of n))) (decimal (saturated_u64 (natural_of n)))))

-- what follows a text's byte
abbrev pub behind : (List Wire → List ℕ) → ℕ → List Wire → List ℕ
behind more b vs = b ∷ more vs

-- what follows a directive
abbrev pub told : (List Wire → List ℕ) → (letter : ℕ) → List Wire → List ℕ
told more letter vs = shown letter (integer (first_of vs)) ++ more (rest_of vs)

-- `%%` is one `%` (37), and an `l` (108) stands before the letter of a long number
unfoldable pub printed : Reading → List ℕ → List Wire → List ℕ
printed Plain [] vs = []
printed Percent [] vs = []
printed Long [] vs = []
printed Plain (b ∷ bs) vs = chosen (b == 37) (printed Percent bs) (behind (printed Plain bs) b) vs
printed Percent (b ∷ bs) vs = chosen (b == 37) (behind (printed Plain bs) b) (chosen (b == 108) (printed Long bs) (told (printed Plain bs) b)) vs
printed Long (b ∷ bs) vs = told (printed Plain bs) b vs

-- what is longer than 4,096 bytes is cut there
abbrev pub print_text : List ℕ → List Wire → List ℕ
print_text format vs = take 4096 (printed Plain format vs)
