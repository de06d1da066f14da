-- What is left of a number modulo m.
use Rattle.std.proofs.Common.{◌≡◌, ℕ, zero, suc, ◌+◌, ◌-◌, ◌*◌, ◌/◌, ◌%◌, ◌<◌, ◌≤◌, refl, ap, ◌∙◌, ℤ, pos, negsuc, ◌+ℤ◌, arith}
use Rattle.std.specs.Int.{int_rem_euclid}
use Rattle.std.proofs.lemmas.Int.{ints}
use Rattle.std.proofs.lemmas.Nat.{mod_below, mod-mul-add, div-add-mod'}

pub record IsResidue (n : ℤ) (m : ℕ) : Type 0 where
  pub value : ℕ
  pub is : int_rem_euclid n (pos m) ≡ pos value
  pub small : value < m

pub residue : (n : ℤ) (m : ℕ) → 0 < m → IsResidue n m
residue (pos n) m p = record { value = n % m; is = refl; small = mod_below n m p }
residue (negsuc n) m p = record { value = m - 1 - n % m; is = refl; small = omega arith }

-- a number that is r above a multiple of m
above : (c m r : ℕ) (z : ℤ) → r < m → z ≡ pos (c * m + r) → int_rem_euclid z (pos m) ≡ pos r
above c m r z small e = ap (λ x. int_rem_euclid x (pos m)) e ∙ ap pos (mod-mul-add c m r small)

-- a negative one
below : (c m r : ℕ) (z : ℤ) → r < m → z ≡ negsuc (c * m + (m - 1 - r)) → int_rem_euclid z (pos m) ≡ pos r
below c m r z small e =
    let last = mod-mul-add c m (m - 1 - r) (omega arith) in
    let turned : m - 1 - (c * m + (m - 1 - r)) % m ≡ r = omega arith in
    ap (λ x. int_rem_euclid x (pos m)) e ∙ ap pos turned

-- a sum whose residue is the sum of the residues
pub rem_add-low : (n : ℤ) (m s r : ℕ) → int_rem_euclid n (pos m) ≡ pos r → r + s < m → int_rem_euclid (n +ℤ pos s) (pos m) ≡ pos (r + s)
rem_add-low (pos n) m s r e h =
    let split = div-add-mod' n m in
    above (n / m) m (r + s) (pos n +ℤ pos s) h (omega (arith, ints))
rem_add-low (negsuc n) m s r e h =
    let split = div-add-mod' n m in
    let small = mod_below n m (omega arith) in
    below (n / m) m (r + s) (negsuc n +ℤ pos s) h (omega (arith, ints))

-- one whose residue is less by m
pub rem_add-high : (n : ℤ) (m s r : ℕ) → 0 < m → int_rem_euclid n (pos m) ≡ pos r → s ≤ m → m ≤ r + s → int_rem_euclid (n +ℤ pos s) (pos m) ≡ pos (r + s - m)
rem_add-high (pos n) m s r p e q h =
    let split = div-add-mod' n m in
    let small = mod_below n m p in
    above (suc (n / m)) m (r + s - m) (pos n +ℤ pos s) (omega (arith, ints)) (omega (arith, ints))
rem_add-high (negsuc n) m s r p e q h =
    let split = div-add-mod' n m in
    let small = mod_below n m p in
    turned (n / m) refl
  where
    turned : (c : ℕ) → n / m ≡ c → int_rem_euclid (negsuc n +ℤ pos s) (pos m) ≡ pos (r + s - m)
    turned zero f =
        let split = div-add-mod' n m in
        let small = mod_below n m p in
        let none : n / m * m ≡ 0 * m = ap (λ x. x * m) f in
        above 0 m (r + s - m) (negsuc n +ℤ pos s) (omega (arith, ints)) (omega (arith, ints))
    turned (suc c) f =
        let split = div-add-mod' n m in
        let small = mod_below n m p in
        let more : n / m * m ≡ suc c * m = ap (λ x. x * m) f in
        below c m (r + s - m) (negsuc n +ℤ pos s) (omega (arith, ints)) (omega (arith, ints))
