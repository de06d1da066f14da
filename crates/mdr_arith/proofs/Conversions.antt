-- A conversion by the residue modulo 2^N.
use Rattle.std.proofs.Common.{◌≡◌, ℕ, ◌+◌, ◌^◌, ◌<◌, ◌≤◌, true, false, refl, sym, ap, ◌∙◌, ℤ, pos, ◌+ℤ◌, ◌-ℤ◌, neg_ℤ, ◌≤ℤ◌, ◌<ℤ◌, FitsSigned, to_z, of_z, arith}
use Rattle.std.specs.Prelude.{int_lt, unsigned_abs}
use Rattle.std.specs.Int.{w128, int_rem_euclid}
use Rattle.std.proofs.lemmas.Int.{ints, to_z-of_z, by_lt_z}
use Rattle.std.proofs.lemmas.Nat.{pow_pos}
use Rattle.mdr_core.specs.declared.kind.Kind.{Kind}
use Rattle.mdr_core.specs.declared.kind.Kind.TheVariants.{U8, U16, U32, U64, S8, S16, S32, S64}
use Rattle.mdr_core.specs.Conversions.{converted}
use Rattle.mdr_core.specs.Kinds.{width, least, greatest, is_in_range}
use Rattle.mdr_core.proofs.Conversions.{converted-of_range}
use Rattle.mdr_core.proofs.Ranges.{zero-le-greatest, greatest-is}
use Rattle.mdr_arith.proofs.Residues.{residue, rem_add-low, rem_add-high}
use Rattle.mdr_arith.proofs.Sizes.{modulus-small, greatest-high}

least-is : (k : Kind) → least k ≡ neg_ℤ (pos (unsigned_abs (least k)))
least-is U8 = refl
least-is U16 = refl
least-is U32 = refl
least-is U64 = refl
least-is S8 = refl
least-is S16 = refl
least-is S32 = refl
least-is S64 = refl

-- down to the least number and up again
folded-low : (n : ℤ) (m s r : ℕ) → int_rem_euclid n (pos m) ≡ pos r → r + s < m → neg_ℤ (pos s) +ℤ int_rem_euclid (n -ℤ neg_ℤ (pos s)) (pos m) ≡ pos r
folded-low n m s r e h =
    let same : n -ℤ neg_ℤ (pos s) ≡ n +ℤ pos s = omega (arith, ints) in
    let left = rem_add-low n m s r e h in
    ap (λ x. neg_ℤ (pos s) +ℤ int_rem_euclid x (pos m)) same ∙ ap (λ x. neg_ℤ (pos s) +ℤ x) left ∙ omega (arith, ints)

folded-high : (n : ℤ) (m s r : ℕ) → 0 < m → int_rem_euclid n (pos m) ≡ pos r → s ≤ m → m ≤ r + s → neg_ℤ (pos s) +ℤ int_rem_euclid (n -ℤ neg_ℤ (pos s)) (pos m) ≡ pos r -ℤ pos m
folded-high n m s r p e q h =
    let same : n -ℤ neg_ℤ (pos s) ≡ n +ℤ pos s = omega (arith, ints) in
    let left = rem_add-high n m s r p e q h in
    ap (λ x. neg_ℤ (pos s) +ℤ int_rem_euclid x (pos m)) same ∙ ap (λ x. neg_ℤ (pos s) +ℤ x) left ∙ omega (arith, ints)

pub converted-low : (k : Kind) (n : ℤ) (r : ℕ) → int_rem_euclid n (pos (2 ^ width k)) ≡ pos r → pos r ≤ℤ greatest k → converted k n ≡ pos r
unfolding converted
converted-low k n r e h =
    let from = least-is k in
    let to = greatest-is k in
    let some = pow_pos (width k) in
    ap (λ l. l +ℤ int_rem_euclid (n -ℤ l) (pos (2 ^ width k))) from ∙ folded-low n (2 ^ width k) (unsigned_abs (least k)) r e (omega (arith, ints))

pub converted-high : (k : Kind) (n : ℤ) (r : ℕ) → int_rem_euclid n (pos (2 ^ width k)) ≡ pos r → greatest k <ℤ pos r → converted k n ≡ pos r -ℤ pos (2 ^ width k)
unfolding converted
converted-high k n r e h =
    let from = least-is k in
    let to = greatest-is k in
    let high = zero-le-greatest k in
    let some = pow_pos (width k) in
    ap (λ l. l +ℤ int_rem_euclid (n -ℤ l) (pos (2 ^ width k))) from ∙ folded-high n (2 ^ width k) (unsigned_abs (least k)) r some e (omega (arith, ints)) (omega (arith, ints))

-- numbers of one residue are converted to one
pub converted-same : (k : Kind) (a b : ℤ) (r : ℕ) → int_rem_euclid a (pos (2 ^ width k)) ≡ pos r → int_rem_euclid b (pos (2 ^ width k)) ≡ pos r → converted k a ≡ converted k b
converted-same k a b r e f =
    by_lt_z (greatest k) (pos r)
    (λ h. converted-high k a r e h ∙ sym (converted-high k b r f h))
    (λ h. converted-low k a r e h ∙ sym (converted-low k b r f h))

above-from : (a b : ℤ) → int_lt a b ≡ true → a <ℤ b
above-from a b h = grind (arith, ints)

below-from : (a b : ℤ) → int_lt a b ≡ false → b ≤ℤ a
below-from a b h = grind (arith, ints)

greatest-fits : (k : Kind) → FitsSigned w128 (greatest k)
greatest-fits k = let low = zero-le-greatest k in let high = greatest-high k in omega (arith, ints)

modulus-fits : (k : Kind) → FitsSigned w128 (pos (2 ^ width k))
modulus-fits k = let small = modulus-small k in omega (arith, ints)

-- the facts that the code has before its test
pub record Knows (k : Kind) (n low most : ℤ) : Type 0 where
  pub fits : FitsSigned w128 n
  pub low_is : low ≡ int_rem_euclid (to_z w128 (of_z w128 n)) (pos (2 ^ width k))
  pub most_is : most ≡ greatest k

read-low : (k : Kind) (n low most : ℤ) → Knows k n low most → low ≡ int_rem_euclid n (pos (2 ^ width k))
read-low k n low most s = s.low_is ∙ ap (λ x. int_rem_euclid x (pos (2 ^ width k))) (to_z-of_z w128 n s.fits)

held : (x y : ℤ) → x ≡ y → FitsSigned w128 y → to_z w128 (of_z w128 x) ≡ y
held x y e f = ap (λ z. to_z w128 (of_z w128 z)) e ∙ to_z-of_z w128 y f

value-fits : (k : Kind) (v : ℕ) → v < 2 ^ width k → FitsSigned w128 (pos v)
value-fits k v h = let small = modulus-small k in omega (arith, ints)

pub conv-high : (k : Kind) (n size low most : ℤ) → Knows k n low most → size ≡ pos (2 ^ width k) → int_lt (to_z w128 (of_z w128 most)) (to_z w128 (of_z w128 low)) ≡ true → to_z w128 (of_z w128 (to_z w128 (of_z w128 low) -ℤ to_z w128 (of_z w128 size))) ≡ converted k n
conv-high k n size low most s whole h =
    let r = residue n (2 ^ width k) (pow_pos (width k)) in
    let is : low ≡ pos r.value = read-low k n low most s ∙ r.is in
    let fits = value-fits k r.value r.small in
    let test = rw (held most (greatest k) s.most_is (greatest-fits k), held low (pos r.value) is fits) at h in
    let over = above-from (greatest k) (pos r.value) test in
    let small = modulus-small k in
    let below = r.small in
    let last : to_z w128 (of_z w128 (pos r.value -ℤ pos (2 ^ width k))) ≡ pos r.value -ℤ pos (2 ^ width k) = omega (arith, ints) in
    ap (λ x. to_z w128 (of_z w128 (x -ℤ to_z w128 (of_z w128 size)))) (held low (pos r.value) is fits)
    ∙ ap (λ x. to_z w128 (of_z w128 (pos r.value -ℤ x))) (held size (pos (2 ^ width k)) whole (modulus-fits k))
    ∙ last
    ∙ sym (converted-high k n r.value r.is over)

pub conv-low : (k : Kind) (n low most : ℤ) → Knows k n low most → int_lt (to_z w128 (of_z w128 most)) (to_z w128 (of_z w128 low)) ≡ false → to_z w128 (of_z w128 low) ≡ converted k n
conv-low k n low most s h =
    let r = residue n (2 ^ width k) (pow_pos (width k)) in
    let is : low ≡ pos r.value = read-low k n low most s ∙ r.is in
    let fits = value-fits k r.value r.small in
    let test = rw (held most (greatest k) s.most_is (greatest-fits k), held low (pos r.value) is fits) at h in
    let under = below-from (greatest k) (pos r.value) test in
    held low (pos r.value) is fits ∙ sym (converted-low k n r.value r.is under)

-- a number of the range is returned as it is
pub conv-whole : (k : Kind) (n : ℤ) → FitsSigned w128 n → is_in_range k (to_z w128 (of_z w128 n)) ≡ true → to_z w128 (of_z w128 n) ≡ converted k n
conv-whole k n f h =
    let same = to_z-of_z w128 n f in
    same ∙ sym (converted-of_range k n (ap (is_in_range k) (sym same) ∙ h))
