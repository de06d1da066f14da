-- What 128 bits hold of quotients and remainders, and where they are defined.
use Rattle.std.proofs.Common.{◌≡◌, ◌≢◌, ℕ, suc, ◌/◌, ◌^◌, ◌<◌, ◌≤◌, Bool, true, false, refl, sym, ap, ◌∙◌, ◌==◌, Ok, ℤ, pos, negsuc, ◌-ℤ◌, ◌*ℤ◌, neg_ℤ, FitsSigned, to_z, of_z, arith}
use Rattle.std.specs.Prelude.{int_div, int_rem, unsigned_abs}
use Rattle.std.specs.Int.{w128}
use Rattle.std.proofs.lemmas.Int.{ints, to_z-of_z, fits_signed_from_abs, quot_is, rem_is}
use native.Mathlib.Nat.{div-le_self}
use Rattle.mdr_core.specs.declared.kind.Kind.{Kind}
use Rattle.mdr_core.specs.declared.undefined.Undefined.TheVariants.{Overflow}
use Rattle.mdr_core.specs.Kinds.{is_in_range}
use Rattle.mdr_core.specs.Operators.{fitted_or, fitted, quotient_by, quotient, rest}
use Rattle.mdr_core.proofs.Operators as operators
use Rattle.mdr_arith.proofs.Sizes.{IsWord, in_range-word}
use Rattle.mdr_arith.proofs.Words.{word-fits}

abs-neg : (n : ℕ) → unsigned_abs (neg_ℤ (pos n)) ≡ n
abs-neg n = omega (arith, ints)

abs-div : (a b : ℤ) → unsigned_abs (int_div a b) ≤ unsigned_abs a
abs-div (pos a) (pos b) = div-le_self a b
abs-div (pos a) (negsuc b) = rw (abs-neg (a / suc b)) (div-le_self a (suc b))
abs-div (negsuc a) (pos b) = rw (abs-neg (suc a / b)) (div-le_self (suc a) b)
abs-div (negsuc a) (negsuc b) = div-le_self (suc a) (suc b)

word-size : (a : ℤ) → IsWord a → unsigned_abs a < 2 ^ 65
word-size (pos a) p = omega (arith, ints)
word-size (negsuc a) p = omega (arith, ints)

quotient-small : (a b : ℤ) → IsWord a → FitsSigned w128 (int_div a b)
quotient-small a b p =
    let small = word-size a p in
    let less = abs-div a b in
    fits_signed_from_abs w128 (int_div a b) (omega arith)

pub quotient-fits : (a b : ℤ) → IsWord a → IsWord b → FitsSigned w128 (int_div (to_z w128 (of_z w128 a)) (to_z w128 (of_z w128 b)))
quotient-fits a b p q = rw (to_z-of_z w128 a (word-fits a p), to_z-of_z w128 b (word-fits b q)) (quotient-small a b p)

quotient-is : (a b : ℤ) → IsWord a → IsWord b → to_z w128 (of_z w128 (int_div (to_z w128 (of_z w128 a)) (to_z w128 (of_z w128 b)))) ≡ int_div a b
quotient-is a b p q = quot_is w128 a b (word-fits a p) (word-fits b q) (quotient-small a b p)

remainder-is : (a b : ℤ) → IsWord a → IsWord b → to_z w128 (of_z w128 (int_rem (to_z w128 (of_z w128 a)) (to_z w128 (of_z w128 b)))) ≡ int_rem a b
remainder-is a b p q = rem_is w128 a b (word-fits a p) (word-fits b q)

bits-nonzero : (b : ℤ) → unsigned_abs b ≢ 0 → IsWord b → 0 < of_z w128 b
bits-nonzero (pos b) h q = omega arith
bits-nonzero (negsuc b) h q = omega (arith, ints)

test-nonzero : (b : ℤ) → (of_z w128 b ≡ 0 → ⊥) → (unsigned_abs b == 0) ≡ false
test-nonzero (pos b) h = grind arith
test-nonzero (negsuc b) h = grind arith

-- the quotient by a number that isn't zero
pub divided : (k : Kind) (a b : ℤ) → IsWord a → IsWord b → (of_z w128 b ≡ 0 → ⊥) → fitted_or Overflow k (to_z w128 (of_z w128 (int_div (to_z w128 (of_z w128 a)) (to_z w128 (of_z w128 b))))) ≡ quotient k a b
unfolding quotient fitted
divided k a b p q h = rw (test-nonzero b h) (ap (fitted_or Overflow k) (quotient-is a b p q))

by-nonzero : (t : Bool) (k : Kind) (a b z : ℤ) → (unsigned_abs b == 0) ≡ t → quotient_by t k a b ≡ Ok z → unsigned_abs b ≢ 0
by-nonzero true k a b z e f = cc
by-nonzero false k a b z e f = grind arith

divisor-nonzero : (k : Kind) (a b z : ℤ) → quotient k a b ≡ Ok z → unsigned_abs b ≢ 0
unfolding quotient
divisor-nonzero k a b z e = by-nonzero (unsigned_abs b == 0) k a b z refl e

read-quotient : (k : Kind) (a b z : ℤ) → IsWord a → IsWord b → Ok z ≡ quotient k (to_z w128 (of_z w128 a)) (to_z w128 (of_z w128 b)) → quotient k a b ≡ Ok z
read-quotient k a b z p q e = let f = rw (to_z-of_z w128 a (word-fits a p), to_z-of_z w128 b (word-fits b q)) at e in sym f

-- where there is a quotient, the divisor isn't zero
pub divisor-fits : (k : Kind) (a b z : ℤ) → IsWord a → IsWord b → Ok z ≡ quotient k (to_z w128 (of_z w128 a)) (to_z w128 (of_z w128 b)) → 0 < of_z w128 b
divisor-fits k a b z p q e = bits-nonzero b (divisor-nonzero k a b z (read-quotient k a b z p q e)) q

rest-of : (k : Kind) (a b z : ℤ) → is_in_range k a ≡ true → is_in_range k b ≡ true → quotient k a b ≡ Ok z → rest (quotient k a b) a b ≡ Ok (int_rem a b)
rest-of k a b z h i e = rw e (ap (λ x. Ok x) (ap (λ x. a -ℤ x *ℤ b) (operators.quotient-is k a b z h i e) ∙ operators.rest-is a b))

-- and what it leaves is the remainder
pub remaining : (k : Kind) (a b z : ℤ) → is_in_range k a ≡ true → is_in_range k b ≡ true → Ok z ≡ quotient k (to_z w128 (of_z w128 a)) (to_z w128 (of_z w128 b)) → Ok (to_z w128 (of_z w128 (int_rem (to_z w128 (of_z w128 a)) (to_z w128 (of_z w128 b))))) ≡ rest (quotient k a b) a b
remaining k a b z h i e =
    let p = in_range-word k a h in
    let q = in_range-word k b i in
    ap (λ x. Ok x) (remainder-is a b p q) ∙ sym (rest-of k a b z h i (read-quotient k a b z p q e))
