-- How large the numbers of a kind are.
use Rattle.std.proofs.Common.{◌≡◌, ℕ, ◌-◌, ◌^◌, ◌<◌, ◌≤◌, true, false, refl, ℤ, pos, negsuc, neg_ℤ, ◌≤ℤ◌, arith}
use Rattle.std.specs.Prelude.{unsigned_abs}
use Rattle.std.proofs.lemmas.Int.{ints}
use Rattle.mdr_core.specs.declared.kind.Kind.{Kind}
use Rattle.mdr_core.specs.declared.kind.Kind.TheVariants.{U8, U16, U32, U64, S8, S16, S32, S64}
use Rattle.mdr_core.specs.Kinds.{width, is_signed, is_in_range, least, greatest}
use Rattle.mdr_core.proofs.Ranges.{in_range-least, in_range-greatest, unsigned-least}

-- a number of some kind
pub record IsWord (a : ℤ) : Type 0 where
  pub low : neg_ℤ (pos (2 ^ 63)) ≤ℤ a
  pub high : a ≤ℤ pos (2 ^ 64 - 1)

least-low : (k : Kind) → neg_ℤ (pos (2 ^ 63)) ≤ℤ least k
least-low U8 = omega (arith, ints)
least-low U16 = omega (arith, ints)
least-low U32 = omega (arith, ints)
least-low U64 = omega (arith, ints)
least-low S8 = omega (arith, ints)
least-low S16 = omega (arith, ints)
least-low S32 = omega (arith, ints)
least-low S64 = omega (arith, ints)

pub greatest-high : (k : Kind) → greatest k ≤ℤ pos (2 ^ 64 - 1)
greatest-high U8 = omega (arith, ints)
greatest-high U16 = omega (arith, ints)
greatest-high U32 = omega (arith, ints)
greatest-high U64 = omega (arith, ints)
greatest-high S8 = omega (arith, ints)
greatest-high S16 = omega (arith, ints)
greatest-high S32 = omega (arith, ints)
greatest-high S64 = omega (arith, ints)

signed-high : (k : Kind) → is_signed k ≡ true → greatest k ≤ℤ pos (2 ^ 63 - 1)
signed-high U8 h = cc
signed-high U16 h = cc
signed-high U32 h = cc
signed-high U64 h = cc
signed-high S8 h = omega (arith, ints)
signed-high S16 h = omega (arith, ints)
signed-high S32 h = omega (arith, ints)
signed-high S64 h = omega (arith, ints)

pub in_range-word : (k : Kind) (a : ℤ) → is_in_range k a ≡ true → IsWord a
in_range-word k a h =
    let least_fits = least-low k in
    let greatest_fits = greatest-high k in
    let above = in_range-least k a h in
    let below = in_range-greatest k a h in
    record { low = omega (arith, ints); high = omega (arith, ints) }

size : (a : ℤ) (n : ℕ) → neg_ℤ (pos n) ≤ℤ a → a ≤ℤ pos n → unsigned_abs a ≤ n
size (pos a) n p q = omega (arith, ints)
size (negsuc a) n p q = omega (arith, ints)

-- a number of a signed kind
pub signed-size : (k : Kind) (a : ℤ) → is_signed k ≡ true → is_in_range k a ≡ true → unsigned_abs a ≤ 2 ^ 63
signed-size k a s h =
    let word = in_range-word k a h in
    let greatest_fits = signed-high k s in
    let below = in_range-greatest k a h in
    size a (2 ^ 63) word.low (omega (arith, ints))

-- a number of an unsigned kind
pub record IsNatural (a : ℤ) : Type 0 where
  pub value : ℕ
  pub is : a ≡ pos value
  pub small : value < 2 ^ 64

pub unsigned-natural : (k : Kind) (a : ℤ) → is_signed k ≡ false → is_in_range k a ≡ true → IsNatural a
unsigned-natural k (pos a) s h =
    let word = in_range-word k (pos a) h in
    record { value = a; is = refl; small = omega (arith, ints) }
unsigned-natural k (negsuc a) s h =
    let from = unsigned-least k s in
    let above = in_range-least k (negsuc a) h in
    absurd (omega (arith, ints))

pub modulus-small : (k : Kind) → 2 ^ width k ≤ 2 ^ 64
modulus-small U8 = omega arith
modulus-small U16 = omega arith
modulus-small U32 = omega arith
modulus-small U64 = omega arith
modulus-small S8 = omega arith
modulus-small S16 = omega arith
modulus-small S32 = omega arith
modulus-small S64 = omega arith
