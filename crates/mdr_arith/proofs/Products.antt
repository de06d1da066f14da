-- What 128 bits hold of products.
use Rattle.std.proofs.Common.{◌≡◌, ℕ, ◌*◌, ◌%◌, ◌^◌, ◌<◌, true, false, ap, Ok, ℤ, pos, ◌*ℤ◌, T, Fits, FitsSigned, to_z, of_z, arith}
use lib.Signed.{non_neg}
use Rattle.std.specs.Prelude.{unsigned_abs}
use Rattle.std.specs.Int.{w128}
use Rattle.std.proofs.lemmas.Int.{to_z-of_z, to_z_pos, fits_signed_mul}
use Rattle.std.proofs.lemmas.Nat.{mod_below, pow_pos, mul-lt}
use Rattle.mdr_core.specs.declared.kind.Kind.{Kind}
use Rattle.mdr_core.specs.Kinds.{width, is_signed, is_in_range}
use Rattle.mdr_core.specs.Operators.{fitted_or, fitted}
use Rattle.mdr_arith.proofs.Sizes.{in_range-word, signed-size, unsigned-natural, modulus-small}
use Rattle.mdr_arith.proofs.Words.{word-fits}

product-small : (k : Kind) (a b : ℤ) → is_signed k ≡ true → is_in_range k a ≡ true → is_in_range k b ≡ true → FitsSigned w128 (a *ℤ b)
product-small k a b s h i = fits_signed_mul w128 a b (2 ^ 63) (2 ^ 63) (signed-size k a s h) (signed-size k b s i) (omega arith)

-- at a signed kind
pub product-fits : (k : Kind) (a b : ℤ) → is_signed k ≡ true → is_in_range k a ≡ true → is_in_range k b ≡ true → FitsSigned w128 (to_z w128 (of_z w128 a) *ℤ to_z w128 (of_z w128 b))
product-fits k a b s h i = rw (to_z-of_z w128 a (word-fits a (in_range-word k a h)), to_z-of_z w128 b (word-fits b (in_range-word k b i))) (product-small k a b s h i)

pub product-is : (k : Kind) (a b : ℤ) → is_signed k ≡ true → is_in_range k a ≡ true → is_in_range k b ≡ true → to_z w128 (of_z w128 (to_z w128 (of_z w128 a) *ℤ to_z w128 (of_z w128 b))) ≡ a *ℤ b
product-is k a b s h i = rw (to_z-of_z w128 a (word-fits a (in_range-word k a h)), to_z-of_z w128 b (word-fits b (in_range-word k b i))) (to_z-of_z w128 (a *ℤ b) (product-small k a b s h i))

-- at an unsigned kind
pub natural-cast : (k : Kind) (a : ℤ) → is_signed k ≡ false → is_in_range k a ≡ true → T (non_neg (to_z w128 (of_z w128 a))) × Fits w128 (unsigned_abs (to_z w128 (of_z w128 a)))
natural-cast k a s h =
    let n = unsigned-natural k a s h in
    rw (to_z-of_z w128 a (word-fits a (in_range-word k a h)), n.is) (tt, record { fits = omega arith })

pub natural_product-fits : (k : Kind) (a b : ℤ) → is_signed k ≡ false → is_in_range k a ≡ true → is_in_range k b ≡ true → Fits w128 (unsigned_abs (to_z w128 (of_z w128 a)) * unsigned_abs (to_z w128 (of_z w128 b)))
natural_product-fits k a b s h i =
    let m = unsigned-natural k a s h in
    let n = unsigned-natural k b s i in
    rw (to_z-of_z w128 a (word-fits a (in_range-word k a h)), to_z-of_z w128 b (word-fits b (in_range-word k b i)), m.is, n.is)
    (record { fits = mul-lt m.value n.value (2 ^ 64) (2 ^ 64) m.small n.small })

modulus-fits : (k : Kind) → FitsSigned w128 (pos (2 ^ width k))
modulus-fits k = let small = modulus-small k in record { sfits = omega arith }

left-fits : (k : Kind) (n : ℕ) → n % 2 ^ width k < 2 ^ 127
left-fits k n =
    let small = modulus-small k in
    let below = mod_below n (2 ^ width k) (pow_pos (width k)) in
    omega arith

wrapped-product : (k : Kind) (m n : ℕ) → is_signed k ≡ false → Ok (to_z w128 (m * n % 2 ^ width k)) ≡ fitted k (pos m *ℤ pos n)
unfolding fitted fitted_or
wrapped-product k m n s = rw s (ap (λ z. Ok z) (to_z_pos w128 (m * n % 2 ^ width k) (left-fits k (m * n))))

pub natural_product-is : (k : Kind) (a b z : ℤ) → is_signed k ≡ false → is_in_range k a ≡ true → is_in_range k b ≡ true → z ≡ pos (2 ^ width k) → Ok (to_z w128 (unsigned_abs (to_z w128 (of_z w128 a)) * unsigned_abs (to_z w128 (of_z w128 b)) % unsigned_abs (to_z w128 (of_z w128 z)))) ≡ fitted k (a *ℤ b)
natural_product-is k a b z s h i e =
    let m = unsigned-natural k a s h in
    let n = unsigned-natural k b s i in
    rw (to_z-of_z w128 a (word-fits a (in_range-word k a h)), to_z-of_z w128 b (word-fits b (in_range-word k b i)), e, to_z-of_z w128 (pos (2 ^ width k)) (modulus-fits k), m.is, n.is)
    (wrapped-product k m.value n.value s)
