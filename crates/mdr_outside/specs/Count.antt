-- believed
-- Counts of answers, and calls that are numbered from 1.
use Rattle.std.specs.Prelude.{ℕ, ◌+◌, ◌-◌, ◌^◌, ◌≤◌, ◌==◌, min, Bool, List}
use Rattle.std.specs.List.{list_any}

-- a count after one more: the greatest u64 stays
abbrev pub raised : ℕ → ℕ
raised count = min (count + 1) (2 ^ 64 - 1)

-- a count is greater than before, or it stands at the greatest u64
abbrev pub Rose : ℕ → ℕ → Type 0
Rose before now = raised before ≤ now

-- whether the call of that number is one of those that fail
abbrev pub is_failing : List ℕ → ℕ → Bool
is_failing fails number = list_any (λ k. k == number) fails
