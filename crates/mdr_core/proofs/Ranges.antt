-- What lies in a kind's range.
use Rattle.std.proofs.Common.{◌≡◌, ◌-◌, ◌^◌, true, false, refl, ℤ, pos, ◌+ℤ◌, ◌≤ℤ◌, arith, not, ◌&&◌}
use Rattle.std.specs.Prelude.{int_lt}
use Rattle.std.proofs.lemmas.Int.{ints}
use Rattle.mdr_core.specs.declared.kind.Kind.{Kind}
use Rattle.mdr_core.specs.declared.kind.Kind.TheVariants.{U8, U16, U32, U64, S8, S16, S32, S64}
use Rattle.mdr_core.specs.Kinds.{width, is_signed, is_in_range, least, greatest}

between-least : (n l g : ℤ) → (not (int_lt n l) && not (int_lt g n)) ≡ true → l ≤ℤ n
between-least n l g h = grind (arith, ints)

between-greatest : (n l g : ℤ) → (not (int_lt n l) && not (int_lt g n)) ≡ true → n ≤ℤ g
between-greatest n l g h = grind (arith, ints)

between : (n l g : ℤ) → l ≤ℤ n → n ≤ℤ g → (not (int_lt n l) && not (int_lt g n)) ≡ true
between n l g p q = grind (arith, ints)

pub in_range-least : (k : Kind) (n : ℤ) → is_in_range k n ≡ true → least k ≤ℤ n
unfolding is_in_range
in_range-least k n h = between-least n (least k) (greatest k) h

pub in_range-greatest : (k : Kind) (n : ℤ) → is_in_range k n ≡ true → n ≤ℤ greatest k
unfolding is_in_range
in_range-greatest k n h = between-greatest n (least k) (greatest k) h

pub in_range-from : (k : Kind) (n : ℤ) → least k ≤ℤ n → n ≤ℤ greatest k → is_in_range k n ≡ true
unfolding is_in_range
in_range-from k n p q = between n (least k) (greatest k) p q

pub least-le-zero : (k : Kind) → least k ≤ℤ pos 0
least-le-zero U8 = omega (arith, ints)
least-le-zero U16 = omega (arith, ints)
least-le-zero U32 = omega (arith, ints)
least-le-zero U64 = omega (arith, ints)
least-le-zero S8 = omega (arith, ints)
least-le-zero S16 = omega (arith, ints)
least-le-zero S32 = omega (arith, ints)
least-le-zero S64 = omega (arith, ints)

pub zero-le-greatest : (k : Kind) → pos 0 ≤ℤ greatest k
zero-le-greatest U8 = omega (arith, ints)
zero-le-greatest U16 = omega (arith, ints)
zero-le-greatest U32 = omega (arith, ints)
zero-le-greatest U64 = omega (arith, ints)
zero-le-greatest S8 = omega (arith, ints)
zero-le-greatest S16 = omega (arith, ints)
zero-le-greatest S32 = omega (arith, ints)
zero-le-greatest S64 = omega (arith, ints)

-- what lies between a number of the range and zero
pub in_range-above : (k : Kind) (a z : ℤ) → is_in_range k a ≡ true → a ≤ℤ z → z ≤ℤ pos 0 → is_in_range k z ≡ true
in_range-above k a z h p q =
    let low = in_range-least k a h in
    let high = zero-le-greatest k in
    in_range-from k z (omega (arith, ints)) (omega (arith, ints))

pub in_range-below : (k : Kind) (a z : ℤ) → is_in_range k a ≡ true → pos 0 ≤ℤ z → z ≤ℤ a → is_in_range k z ≡ true
in_range-below k a z h p q =
    let low = least-le-zero k in
    let high = in_range-greatest k a h in
    in_range-from k z (omega (arith, ints)) (omega (arith, ints))

-- a kind has 2^N numbers
pub greatest-is : (k : Kind) → greatest k ≡ least k +ℤ pos (2 ^ width k - 1)
greatest-is U8 = refl
greatest-is U16 = refl
greatest-is U32 = refl
greatest-is U64 = refl
greatest-is S8 = refl
greatest-is S16 = refl
greatest-is S32 = refl
greatest-is S64 = refl

-- the range of an unsigned kind
pub unsigned-least : (k : Kind) → is_signed k ≡ false → least k ≡ pos 0
unsigned-least U8 h = refl
unsigned-least U16 h = refl
unsigned-least U32 h = refl
unsigned-least U64 h = refl
unsigned-least S8 h = cc
unsigned-least S16 h = cc
unsigned-least S32 h = cc
unsigned-least S64 h = cc

pub unsigned-greatest : (k : Kind) → is_signed k ≡ false → greatest k ≡ pos (2 ^ width k - 1)
unsigned-greatest U8 h = refl
unsigned-greatest U16 h = refl
unsigned-greatest U32 h = refl
unsigned-greatest U64 h = refl
unsigned-greatest S8 h = cc
unsigned-greatest S16 h = cc
unsigned-greatest S32 h = cc
unsigned-greatest S64 h = cc
