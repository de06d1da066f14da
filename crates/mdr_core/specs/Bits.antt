-- believed
-- The bits of a number in two's complement (C99 6.2.6.2).
use Rattle.std.specs.Prelude.{ℕ, zero, suc, ◌+◌, ◌*◌, ◌^◌, ℤ, pos, unsigned_abs}
use Rattle.std.specs.Int.{int_div_euclid, int_rem_euclid}

-- bit i of a number: the quotient by 2^i, rounded down, modulo 2
unfoldable pub bit_of : ℤ → ℕ → ℕ
bit_of n i = unsigned_abs (int_rem_euclid (int_div_euclid n (pos (2 ^ i))) (pos 2))

-- the number that has so many bits, `bit 0` the lowest of them
unfoldable pub of_bits : ℕ → (ℕ → ℕ) → ℕ
of_bits zero bit = 0
of_bits (suc i) bit = of_bits i bit + bit i * 2 ^ i
