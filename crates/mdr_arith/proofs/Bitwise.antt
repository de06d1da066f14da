-- The bits of a number are those of its residue modulo 2^N.
use Rattle.std.proofs.Common.{◌≡◌, ℕ, zero, suc, ◌+◌, ◌-◌, ◌*◌, ◌/◌, ◌%◌, ◌^◌, ◌<◌, ◌≤◌, min, max, refl, sym, ap, ◌∙◌, ℤ, pos, negsuc, FitsSigned, to_z, of_z, arith, bit_and, bit_or, bit_xor}
use Rattle.std.specs.Int.{w128, bit_at, int_rem_euclid}
use Rattle.std.proofs.lemmas.Int.{to_z-of_z}
use Rattle.std.proofs.lemmas.Nat.{and_le_l, or_lt, xor_lt, div-add-mod', mod_below, pow_pos, div_below}
use Rattle.std.proofs.lemmas.Nat.Bits.{bit_at_lowest, bit_at-suc, bit_at_cat_low, bit_at_and, bit_at_or, bit_at_xor}
use Rattle.std.proofs.Math.Nat.{pow-suc}
use native.Mathlib.Nat.{mod-eq_of_lt}
use Rattle.mdr_core.specs.declared.kind.Kind.{Kind}
use Rattle.mdr_core.specs.Bits.{bit_of, of_bits}
use Rattle.mdr_core.specs.Conversions.{converted}
use Rattle.mdr_core.specs.Kinds.{width}
use Rattle.mdr_core.specs.Operators.{bitwise, flipped}
use Rattle.mdr_arith.proofs.Conversions.{converted-same}
use Rattle.mdr_arith.proofs.Residues.{residue}

bit_at-mod : (n w i : ℕ) → i < w → bit_at (n % 2 ^ w) i ≡ bit_at n i
bit_at-mod n w i h = sym (bit_at_cat_low (n / 2 ^ w) w (n % 2 ^ w) i h) ∙ ap (λ x. bit_at x i) (div-add-mod' n (2 ^ w))

bit_at-complement : (w n i : ℕ) → n < 2 ^ w → i < w → bit_at (2 ^ w - 1 - n) i ≡ 1 - bit_at n i
bit_at-complement zero n i fits h = absurd (omega arith)
bit_at-complement (suc w) n zero fits h = omega (arith, bit_at_lowest (2 ^ suc w - 1 - n), bit_at_lowest n, pow-suc 2 w)
bit_at-complement (suc w) n (suc i) fits h =
    let half : (2 ^ suc w - 1 - n) / 2 ≡ 2 ^ w - 1 - n / 2 = omega (arith, pow-suc 2 w) in
    bit_at-suc (2 ^ suc w - 1 - n) i ∙ ap (λ x. bit_at x i) half ∙ bit_at-complement w (n / 2) i (omega (arith, pow-suc 2 w)) (omega arith) ∙ ap (λ d. 1 - d) (sym (bit_at-suc n i))

bit_of-residue : (a : ℤ) (w x i : ℕ) → int_rem_euclid a (pos (2 ^ w)) ≡ pos x → i < w → bit_at x i ≡ bit_of a i
unfolding bit_of
bit_of-residue (pos n) w x i e h =
    let is : x ≡ n % 2 ^ w = cc in
    ap (λ y. bit_at y i) is ∙ bit_at-mod n w i h
bit_of-residue (negsuc n) w x i e h =
    let is : x ≡ 2 ^ w - 1 - n % 2 ^ w = cc in
    ap (λ y. bit_at y i) is ∙ bit_at-complement w (n % 2 ^ w) i (mod_below n (2 ^ w) (pow_pos w)) h ∙ ap (λ d. 1 - d) (bit_at-mod n w i h)

-- the number that has given bits
of_bits-is : (w z : ℕ) (bit : ℕ → ℕ) → z < 2 ^ w → ((i : ℕ) → i < w → bit_at z i ≡ bit i) → of_bits w bit ≡ z
unfolding of_bits
of_bits-is zero z bit fits h = omega arith
of_bits-is (suc w) z bit fits h =
    let low = of_bits-is w (z % 2 ^ w) bit (mod_below z (2 ^ w) (pow_pos w)) (λ i l. bit_at-mod z w i l ∙ h i (omega arith)) in
    let half = div_below z (2 ^ w) 2 (pow_pos w) (omega (arith, pow-suc 2 w)) in
    let top : bit w ≡ z / 2 ^ w = sym (h w (omega arith)) ∙ mod-eq_of_lt half in
    let times : bit w * 2 ^ w ≡ z / 2 ^ w * 2 ^ w = ap (λ x. x * 2 ^ w) top in
    let split = div-add-mod' z (2 ^ w) in
    omega arith

-- an operator on natural numbers that goes bit by bit
by_bits : (op bit : ℕ → ℕ → ℕ) → ((x y i : ℕ) → bit_at (op x y) i ≡ bit (bit_at x i) (bit_at y i)) → (k : Kind) (a b : ℤ) (x y : ℕ) → op x y < 2 ^ width k → pos x ≡ int_rem_euclid a (pos (2 ^ width k)) → pos y ≡ int_rem_euclid b (pos (2 ^ width k)) → converted k (pos (op x y)) ≡ bitwise bit k a b
unfolding bitwise
by_bits op bit law k a b x y small e f =
    ap (λ z. converted k (pos z))
    (sym
    (of_bits-is (width k) (op x y) (λ i. bit (bit_of a i) (bit_of b i)) small
    (λ i l. law x y i ∙ ap (λ z. bit z (bit_at y i)) (bit_of-residue a (width k) x i (sym e) l) ∙ ap (bit (bit_of a i)) (bit_of-residue b (width k) y i (sym f) l))))

residue-small : (a : ℤ) (w x : ℕ) → pos x ≡ int_rem_euclid a (pos (2 ^ w)) → x < 2 ^ w
residue-small a w x e =
    let r = residue a (2 ^ w) (pow_pos w) in
    let small = r.small in
    let is : pos x ≡ pos r.value = e ∙ r.is in
    let same : x ≡ r.value = cc in
    omega arith

-- what the code has of a number: its lowest bits
pub record HasBits (k : Kind) (a : ℤ) (x : ℕ) : Type 0 where
  pub fits : FitsSigned w128 a
  pub is : pos x ≡ int_rem_euclid (to_z w128 (of_z w128 a)) (pos (2 ^ width k))

plain : (k : Kind) (a : ℤ) (x : ℕ) → HasBits k a x → pos x ≡ int_rem_euclid a (pos (2 ^ width k))
plain k a x h = h.is ∙ ap (λ z. int_rem_euclid z (pos (2 ^ width k))) (to_z-of_z w128 a h.fits)

bits-small : (k : Kind) (a : ℤ) (x : ℕ) → HasBits k a x → x < 2 ^ width k
bits-small k a x h = residue-small a (width k) x (plain k a x h)

pub bit_and-is : (k : Kind) (a b : ℤ) (x y : ℕ) → HasBits k a x → HasBits k b y → converted k (pos (bit_and x y)) ≡ bitwise min k a b
bit_and-is k a b x y e f = by_bits bit_and min bit_at_and k a b x y (let less = and_le_l x y in let small = bits-small k a x e in omega arith) (plain k a x e) (plain k b y f)

pub bit_or-is : (k : Kind) (a b : ℤ) (x y : ℕ) → HasBits k a x → HasBits k b y → converted k (pos (bit_or x y)) ≡ bitwise max k a b
bit_or-is k a b x y e f = by_bits bit_or max bit_at_or k a b x y (or_lt (width k) x y (bits-small k a x e) (bits-small k b y f)) (plain k a x e) (plain k b y f)

pub bit_xor-is : (k : Kind) (a b : ℤ) (x y : ℕ) → HasBits k a x → HasBits k b y → converted k (pos (bit_xor x y)) ≡ bitwise (λ m n. (m + n) % 2) k a b
bit_xor-is k a b x y e f = by_bits bit_xor (λ m n. (m + n) % 2) bit_at_xor k a b x y (xor_lt (width k) x y (bits-small k a x e) (bits-small k b y f)) (plain k a x e) (plain k b y f)

-- the number with each bit turned
abbrev turned : ℤ → ℤ
turned (pos n) = negsuc n
turned (negsuc n) = pos n

bit_at-most : (n i : ℕ) → bit_at n i ≤ 1
bit_at-most n i = let small = mod_below (n / 2 ^ i) 2 (omega arith) in omega arith

bit_of-turned : (a : ℤ) (i : ℕ) → bit_of (turned a) i ≡ 1 - bit_of a i
unfolding bit_of
bit_of-turned (pos n) i = refl
bit_of-turned (negsuc n) i = let most = bit_at-most n i in omega arith

flipped-turned : (k : Kind) (a : ℤ) → converted k (turned a) ≡ flipped k a
unfolding flipped
flipped-turned k a =
    let r = residue (turned a) (2 ^ width k) (pow_pos (width k)) in
    let bits = of_bits-is (width k) r.value (λ i. 1 - bit_of a i) r.small (λ i l. bit_of-residue (turned a) (width k) r.value i r.is l ∙ bit_of-turned a i) in
    converted-same k (turned a) (pos r.value) r.value r.is (ap pos (mod-eq_of_lt r.small)) ∙ ap (λ z. converted k (pos z)) (sym bits)

high_word : (n : ℕ) → n < 2 ^ 127 → to_z w128 (2 ^ 128 - 1 - n) ≡ negsuc n
high_word n h =
    let same : 2 ^ 128 - 1 - n ≡ 2 ^ 128 - suc n = omega arith in
    ap (to_z w128) same ∙ to_z-of_z w128 (negsuc n) (record { sfits = h })

low_word : (n : ℕ) → n < 2 ^ 127 → to_z w128 (2 ^ 128 - 1 - (2 ^ 128 - suc n)) ≡ pos n
low_word n h =
    let same : 2 ^ 128 - 1 - (2 ^ 128 - suc n) ≡ n = omega arith in
    ap (to_z w128) same ∙ to_z-of_z w128 (pos n) (record { sfits = h })

turned-is : (a : ℤ) → FitsSigned w128 a → to_z w128 (2 ^ 128 - 1 - of_z w128 a) ≡ turned a
turned-is (pos n) f = high_word n f.sfits
turned-is (negsuc n) f = low_word n f.sfits

pub flip-is : (k : Kind) (a : ℤ) → FitsSigned w128 a → converted k (to_z w128 (2 ^ 128 - 1 - of_z w128 a)) ≡ flipped k a
flip-is k a f = ap (converted k) (turned-is a f) ∙ flipped-turned k a
