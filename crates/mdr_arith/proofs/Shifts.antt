-- What 128 bits hold of a number shifted to the left.
use Rattle.std.proofs.Common.{◌≡◌, ℕ, ◌-◌, ◌*◌, ◌%◌, ◌^◌, ◌<◌, ◌≤◌, true, false, sym, ap, ◌∙◌, not, ◌&&◌, ℤ, pos, negsuc, FitsSigned, to_z, of_z, arith}
use Rattle.std.specs.Prelude.{int_lt, unsigned_abs}
use Rattle.std.specs.Int.{w128}
use Rattle.std.proofs.lemmas.Int.{ints, to_z-of_z, to_z_pos}
use Rattle.std.proofs.lemmas.Nat.{mul-le}
use Rattle.std.proofs.Math.Nat.{pow-le-pow_right}
use native.Mathlib.Nat.{mod-eq_of_lt}
use Rattle.mdr_core.specs.declared.kind.Kind.{Kind}
use Rattle.mdr_core.specs.declared.kind.Kind.TheVariants.{U8, U16, U32, U64, S8, S16, S32, S64}
use Rattle.mdr_core.specs.declared.undefined.Undefined.TheVariants.{Shift}
use Rattle.mdr_core.specs.Kinds.{width, is_in_range}
use Rattle.mdr_core.specs.Operators.{fitted_or, is_count, shifted_left}
use Rattle.mdr_arith.proofs.Sizes.{IsWord, in_range-word}
use Rattle.mdr_arith.proofs.Words.{word-fits}

width-small : (k : Kind) → width k ≤ 64
width-small U8 = omega arith
width-small U16 = omega arith
width-small U32 = omega arith
width-small U64 = omega arith
width-small S8 = omega arith
width-small S16 = omega arith
width-small S32 = omega arith
width-small S64 = omega arith

count-small : (k : Kind) (n : ℤ) → is_count k n ≡ true → unsigned_abs n ≤ 63
count-small k (pos n) h = let small = width-small k in grind (arith, ints)
count-small k (negsuc n) h = cc

shifted-small : (a n : ℕ) → a < 2 ^ 64 → n ≤ 63 → a * 2 ^ n < 2 ^ 127
shifted-small a n p q =
    let power : 2 ^ n ≤ 2 ^ 63 = pow-le-pow_right (omega arith) q in
    let most = mul-le a (2 ^ n) (2 ^ 64 - 1) (2 ^ 63) (omega arith) power in
    omega arith

from-zero : (a : ℕ) → int_lt (pos a) (pos 0) ≡ false
from-zero a = grind arith

natural : (k : Kind) (a n : ℕ) → a < 2 ^ 64 → is_count k (pos n) ≡ true → fitted_or Shift k (to_z w128 ((a * 2 ^ n) % 2 ^ 128)) ≡ shifted_left (is_count k (pos n) && not (int_lt (pos a) (pos 0))) k (pos a) (pos n)
natural k a n p h =
    let small = shifted-small a n p (count-small k (pos n) h) in
    let whole : (a * 2 ^ n) % 2 ^ 128 ≡ a * 2 ^ n = mod-eq_of_lt (omega arith) in
    let same : to_z w128 ((a * 2 ^ n) % 2 ^ 128) ≡ pos (a * 2 ^ n) = ap (to_z w128) whole ∙ to_z_pos w128 (a * 2 ^ n) small in
    rw (h, from-zero a) (ap (fitted_or Shift k) same)

whole-shift : (k : Kind) (a n : ℤ) → IsWord a → is_count k n ≡ true → int_lt a (pos 0) ≡ false → fitted_or Shift k (to_z w128 ((of_z w128 a * 2 ^ of_z w128 n) % 2 ^ 128)) ≡ shifted_left (is_count k n && not (int_lt a (pos 0))) k a n
whole-shift k (pos a) (pos n) p h i = natural k a n (omega (arith, ints)) h
whole-shift k (pos a) (negsuc n) p h i = cc
whole-shift k (negsuc a) n p h i = cc

-- a number that isn't negative, by a count that the shift takes
pub shifted-is : (k : Kind) (a n : ℤ) → is_in_range k a ≡ true → FitsSigned w128 n → true ≡ is_count k (to_z w128 (of_z w128 n)) → int_lt (to_z w128 (of_z w128 a)) (pos 0) ≡ false → fitted_or Shift k (to_z w128 ((of_z w128 a * 2 ^ of_z w128 n) % 2 ^ 128)) ≡ shifted_left (is_count k n && not (int_lt a (pos 0))) k a n
shifted-is k a n r f h i =
    let p = in_range-word k a r in
    whole-shift k a n p (sym (h ∙ ap (is_count k) (to_z-of_z w128 n f))) (sym (ap (λ x. int_lt x (pos 0)) (to_z-of_z w128 a (word-fits a p))) ∙ i)
