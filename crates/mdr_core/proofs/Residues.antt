-- What is left of a number modulo m.
use Rattle.std.proofs.Common.{◌≡◌, ℕ, ◌-◌, ◌<◌, ℤ, pos, negsuc, ◌≤ℤ◌, arith, ap}
use Rattle.std.specs.Int.{int_rem_euclid}
use Rattle.std.proofs.lemmas.Int.{ints}
use Rattle.std.proofs.lemmas.Nat.{mod_below}
use native.Mathlib.Nat.{mod-eq_of_lt}

-- it lies from 0 to m - 1
pub rem_euclid-low : (n : ℤ) (m : ℕ) → 0 < m → pos 0 ≤ℤ int_rem_euclid n (pos m)
rem_euclid-low (pos n) m p = omega (arith, ints)
rem_euclid-low (negsuc n) m p = omega (arith, ints)

pub rem_euclid-high : (n : ℤ) (m : ℕ) → 0 < m → int_rem_euclid n (pos m) ≤ℤ pos (m - 1)
rem_euclid-high (pos n) m p = let small = mod_below n m p in omega (arith, ints)
rem_euclid-high (negsuc n) m p = omega (arith, ints)

-- a number from 0 to m - 1 is left as it is
pub rem_euclid-small : (n : ℤ) (m : ℕ) → pos 0 ≤ℤ n → n ≤ℤ pos (m - 1) → 0 < m → int_rem_euclid n (pos m) ≡ n
rem_euclid-small (pos n) m p q s = let small : n < m = omega (arith, ints) in ap pos (mod-eq_of_lt small)
rem_euclid-small (negsuc n) m p q s = absurd (omega (arith, ints))
