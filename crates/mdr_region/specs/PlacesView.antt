-- protocol
-- The fields of places, as what is kept of all births and deaths.
use Rattle.std.specs.Prelude.{ℕ, ◌+◌, ◌^◌, ◌-◌, ◌≡◌, ◌<◌, ◌≤◌, false, is_some, length, vec_capacity}
use Rattle.mdr_region.specs.declared.places.Places.{Places}
use Rattle.mdr_region.specs.declared.pool.Pool.{Pool}
use Rattle.mdr_region.specs.Blocks.{IsKept}
use Rattle.mdr_region.specs.Holes.{found}

abbrev pub AreSound : Places → Type 0
AreSound s = IsKept s.lives s.holes.items (vec_capacity s.holes) s.top s.taken s.births s.live

-- where no hole has so many places, there are so many at the top
abbrev pub Fits : Places → (cells : ℕ) → Type 0
Fits s cells = is_some (found cells s.holes.items) ≡ false → s.top + cells < 2 ^ 64

-- each place below the top has its cell, and what was reserved is there
pub record IsSound (s : Pool) : Type 0 where
  pub places : AreSound s.places
  pub cells : length s.values.items ≡ s.places.top
  pub roomy : length s.values.items + s.cells_left ≤ vec_capacity s.values
  pub births : s.places.live + s.births_left ≤ vec_capacity s.places.holes
  pub serials : s.places.births + s.births_left ≤ 2 ^ 64 - 1
