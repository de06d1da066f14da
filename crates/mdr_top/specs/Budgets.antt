-- believed
-- Numbers as words: the budget of a run, and what is asked of a seed.
use Rattle.std.specs.Prelude.{ℕ, Bool, true, false, ◌&&◌, nat_le, List, [], ◌∷◌, codes, Option, Some, None, Result, Ok, Err}
use Rattle.std.specs.Str.{all_ascii_digits, bytes_eq}
use Rattle.std.specs.Str.Parse.{digits_value}
use Rattle.mdr_core.specs.Layout.{chosen}

abbrev pub when : {A : Type 0} → Bool → A → Option A
when true x = Some x
when false x = None

-- the first digit is no zero: 49 is `1`, 57 is `9`
abbrev pub begins_number : List ℕ → Bool
begins_number [] = false
begins_number (b ∷ bytes) = nat_le 49 b && nat_le b 57

-- what was read, where no number is larger
abbrev pub within : {E : Type 0} → (most : ℕ) → Result ℕ E → Option ℕ
within most (Ok n) = when (nat_le n most) n
within most (Err e) = None

-- 1 to a number, in decimal digits
unfoldable pub number_within : (most : ℕ) → List ℕ → Option ℕ
number_within most word = when (begins_number word && all_ascii_digits word && nat_le (digits_value 10 word) most) (digits_value 10 word)

-- a budget: 1 to 100,000,000
abbrev pub ticks_of : List ℕ → Option ℕ
ticks_of word = number_within 100000000 word

-- a seed: 0 to 2^64 - 1
abbrev pub seed_of : List ℕ → Option ℕ
seed_of word = chosen (bytes_eq word (codes "0")) (Some 0) (number_within 18446744073709551615 word)

-- how many lines a seed makes: 1 to 1,000
abbrev pub size_of : List ℕ → Option ℕ
size_of word = number_within 1000 word

-- a million where nothing is said of it
abbrev pub budget_of : Option ℕ → ℕ
budget_of None = 1000000
budget_of (Some n) = n
