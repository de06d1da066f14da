-- What 128 bits hold of sums and differences.
use Rattle.std.proofs.Common.{◌≡◌, ℤ, pos, ◌+ℤ◌, ◌-ℤ◌, neg_ℤ, FitsSigned, to_z, of_z, arith}
use Rattle.std.specs.Int.{w128}
use Rattle.std.proofs.lemmas.Int.{ints}
use Rattle.mdr_arith.proofs.Sizes.{IsWord}

pub word-fits : (a : ℤ) → IsWord a → FitsSigned w128 a
word-fits a p = omega (arith, ints)

pub sum-fits : (a b : ℤ) → IsWord a → IsWord b → FitsSigned w128 (to_z w128 (of_z w128 a) +ℤ to_z w128 (of_z w128 b))
sum-fits a b p q = omega (arith, ints)

pub sum-is : (a b : ℤ) → IsWord a → IsWord b → to_z w128 (of_z w128 (to_z w128 (of_z w128 a) +ℤ to_z w128 (of_z w128 b))) ≡ a +ℤ b
sum-is a b p q = omega (arith, ints)

pub difference-fits : (a b : ℤ) → IsWord a → IsWord b → FitsSigned w128 (to_z w128 (of_z w128 a) -ℤ to_z w128 (of_z w128 b))
difference-fits a b p q = omega (arith, ints)

pub difference-is : (a b : ℤ) → IsWord a → IsWord b → to_z w128 (of_z w128 (to_z w128 (of_z w128 a) -ℤ to_z w128 (of_z w128 b))) ≡ a -ℤ b
difference-is a b p q = omega (arith, ints)

pub negation-fits : (a : ℤ) → IsWord a → FitsSigned w128 (pos 0 -ℤ to_z w128 (of_z w128 a))
negation-fits a p = omega (arith, ints)

pub negation-is : (a : ℤ) → IsWord a → to_z w128 (of_z w128 (pos 0 -ℤ to_z w128 (of_z w128 a))) ≡ neg_ℤ a
negation-is a p = omega (arith, ints)
