-- A number that is written with its suffix is one of its kind, and so is its negation.
use Rattle.std.proofs.Common.{◌≡◌, ℕ, ◌<◌, ◌-◌, ◌^◌, Bool, true, false, pos, neg_ℤ, ◌+ℤ◌, ◌-ℤ◌, refl, arith, nat_lt, eqb-true}
use Rattle.std.specs.Prelude.{◌==◌}
use Rattle.std.proofs.lemmas.Int.{ints}
use Rattle.mdr_core.specs.declared.kind.Kind.{Kind}
use Rattle.mdr_core.specs.declared.kind.Kind.TheVariants.{U8, U16, U32, U64, S8, S16, S32, S64}
use Rattle.mdr_core.specs.Kinds.{is_in_range, least, greatest}
use Rattle.mdr_core.specs.Layout.{chosen}
use Rattle.mdr_core.proofs.Ranges.{in_range-from}
use Rattle.mdr_faults.specs.Declarations.{opposite, number_constant}
use Rattle.mdr_roundtrip.specs.Words.{is_written}
use Rattle.mdr_sound.specs.ProperSources.{IsInRange}

below : (n m : ℕ) → nat_lt n m ≡ true → n < m
below n m h = grind arith

signed_in : (k : Kind) (m n : ℕ) → least k ≡ neg_ℤ (pos m) → greatest k ≡ pos (m - 1) → n < m → is_in_range k (pos n) ≡ true
signed_in k m n l g h = in_range-from k (pos n) (omega (arith, ints, l, h)) (omega (arith, ints, g, h))

signed_opposite : (k : Kind) (m n : ℕ) → least k ≡ neg_ℤ (pos m) → greatest k ≡ pos (m - 1) → n < m → is_in_range k (neg_ℤ (pos n)) ≡ true
signed_opposite k m n l g h = in_range-from k (neg_ℤ (pos n)) (omega (arith, ints, l, h)) (omega (arith, ints, g, h))

unsigned_in : (k : Kind) (m n : ℕ) → least k ≡ pos 0 → greatest k ≡ pos (m - 1) → n < m → is_in_range k (pos n) ≡ true
unsigned_in k m n l g h = in_range-from k (pos n) (omega (arith, ints, l, h)) (omega (arith, ints, g, h))

zero_when : (n : ℕ) → (n == 0) ≡ true → n ≡ 0
zero_when n e = eqb-true n 0 e

some_when : (n : ℕ) → (n == 0) ≡ false → 0 < n
some_when n e = grind arith

-- an unsigned kind counts from its greatest number downwards, but for nothing
unsigned_opposite : (k : Kind) (m n : ℕ) (t : Bool) → least k ≡ pos 0 → greatest k ≡ pos (m - 1) → (n == 0) ≡ t → n < m → is_in_range k (chosen t (neg_ℤ (pos n)) ((greatest k +ℤ pos 1) -ℤ pos n)) ≡ true
unsigned_opposite k m n true l g e h = let z = zero_when n e in in_range-from k (neg_ℤ (pos n)) (omega (arith, ints, l, z)) (omega (arith, ints, g, z))
unsigned_opposite k m n false l g e h = let z = some_when n e in in_range-from k ((greatest k +ℤ pos 1) -ℤ pos n) (omega (arith, ints, l, g, h)) (omega (arith, ints, l, g, z))

pub written_in : (k : Kind) (n : ℕ) → is_written n k ≡ true → is_in_range k (pos n) ≡ true
written_in U8 n h = absurd cc
written_in U16 n h = absurd cc
written_in U32 n h = unsigned_in U32 (2 ^ 32) n refl refl (below n (2 ^ 32) h)
written_in U64 n h = unsigned_in U64 (2 ^ 64) n refl refl (below n (2 ^ 64) h)
written_in S8 n h = absurd cc
written_in S16 n h = absurd cc
written_in S32 n h = signed_in S32 (2 ^ 31) n refl refl (below n (2 ^ 31) h)
written_in S64 n h = signed_in S64 (2 ^ 63) n refl refl (below n (2 ^ 63) h)

opposite_in : (k : Kind) (n : ℕ) → is_written n k ≡ true → is_in_range k (opposite k n) ≡ true
opposite_in U8 n h = absurd cc
opposite_in U16 n h = absurd cc
opposite_in U32 n h = unsigned_opposite U32 (2 ^ 32) n (n == 0) refl refl refl (below n (2 ^ 32) h)
opposite_in U64 n h = unsigned_opposite U64 (2 ^ 64) n (n == 0) refl refl refl (below n (2 ^ 64) h)
opposite_in S8 n h = absurd cc
opposite_in S16 n h = absurd cc
opposite_in S32 n h = signed_opposite S32 (2 ^ 31) n refl refl (below n (2 ^ 31) h)
opposite_in S64 n h = signed_opposite S64 (2 ^ 63) n refl refl (below n (2 ^ 63) h)

pub constant_in : (is_negative : Bool) (n : ℕ) (k : Kind) → is_written n k ≡ true → IsInRange (number_constant is_negative n k)
constant_in true n k h = opposite_in k n h
constant_in false n k h = written_in k n h
