-- What an operator gives lies in the range of its kind.
use Rattle.std.proofs.Common.{◌≡◌, ℕ, suc, ◌+◌, ◌/◌, ◌%◌, ◌^◌, ◌≤◌, min, max, Bool, true, false, refl, Result, Ok, Err, ℤ, pos, negsuc, ◌+ℤ◌, ◌-ℤ◌, ◌*ℤ◌, neg_ℤ, ◌≤ℤ◌, arith, not, ◌&&◌, ◌==◌, ap, ◌∙◌}
use Rattle.std.specs.Prelude.{int_lt, int_div, int_rem, unsigned_abs}
use Rattle.std.specs.Int.{int_rem_euclid, int_div_euclid}
use Rattle.std.proofs.lemmas.Int.{ints, quot-rem}
use Rattle.std.proofs.lemmas.Nat.{pow_pos}
use native.Mathlib.Nat.{div-le_self, mod-le}
use Rattle.mdr_core.specs.declared.kind.Kind.{Kind}
use Rattle.mdr_core.specs.declared.undefined.Undefined.{Undefined}
use Rattle.mdr_core.specs.declared.undefined.Undefined.TheVariants.{Overflow, Shift}
use Rattle.mdr_core.specs.declared.code.BinOp.{BinOp}
use Rattle.mdr_core.specs.declared.code.BinOp.TheVariants.{Add, Sub, Mul, Div, Rem, Shl, Shr, BitAnd, BitOr, BitXor}
use Rattle.mdr_core.specs.Kinds.{width, is_signed, is_in_range}
use Rattle.mdr_core.specs.Operators.{within, fitted_by, fitted_or, fitted, quotient_by, quotient, rest, is_count, shifted_left, shifted_right, bitwise, operated, negated, flipped, is_right_operand}
use Rattle.mdr_core.proofs.Conversions.{converted-in_range}
use Rattle.mdr_core.proofs.Ranges.{in_range-least, in_range-greatest, in_range-from, in_range-above, in_range-below, unsigned-least, unsigned-greatest}
use Rattle.mdr_core.proofs.Residues.{rem_euclid-low, rem_euclid-high, rem_euclid-small}

reduced-in_range : (k : Kind) (n : ℤ) → is_signed k ≡ false → is_in_range k (int_rem_euclid n (pos (2 ^ width k))) ≡ true
reduced-in_range k n h =
    let some = pow_pos (width k) in
    let low = rem_euclid-low n (2 ^ width k) some in
    let high = rem_euclid-high n (2 ^ width k) some in
    let from = unsigned-least k h in
    let to = unsigned-greatest k h in
    in_range-from k (int_rem_euclid n (pos (2 ^ width k))) (omega (arith, ints)) (omega (arith, ints))

within-in_range : (r : Undefined) (b : Bool) (k : Kind) (n z : ℤ) → is_in_range k n ≡ b → within r b n ≡ Ok z → is_in_range k z ≡ true
within-in_range r true k n z h e = let s : n ≡ z = cc in rw (← s) h
within-in_range r false k n z h e = cc

fitted_by-in_range : (s : Bool) (r : Undefined) (k : Kind) (n z : ℤ) → is_signed k ≡ s → fitted_by s r k n ≡ Ok z → is_in_range k z ≡ true
fitted_by-in_range true r k n z h e = within-in_range r (is_in_range k n) k n z refl e
fitted_by-in_range false r k n z h e =
    let s : int_rem_euclid n (pos (2 ^ width k)) ≡ z = cc in
    rw (← s) (reduced-in_range k n h)

pub fitted_or-in_range : (r : Undefined) (k : Kind) (n z : ℤ) → fitted_or r k n ≡ Ok z → is_in_range k z ≡ true
unfolding fitted_or
fitted_or-in_range r k n z e = fitted_by-in_range (is_signed k) r k n z refl e

-- a mathematical result at a kind lies in the kind's range
pub fitted-in_range : (k : Kind) (n z : ℤ) → fitted k n ≡ Ok z → is_in_range k z ≡ true
unfolding fitted
fitted-in_range k n z e = fitted_or-in_range Overflow k n z e

-- a number of the range is its own result
fitted_by-of_range : (s : Bool) (r : Undefined) (k : Kind) (n : ℤ) → is_signed k ≡ s → is_in_range k n ≡ true → fitted_by s r k n ≡ Ok n
fitted_by-of_range true r k n h i = rw i refl
fitted_by-of_range false r k n h i =
    let low = in_range-least k n i in
    let high = in_range-greatest k n i in
    let from = unsigned-least k h in
    let to = unsigned-greatest k h in
    ap (λ z. Ok z) (rem_euclid-small n (2 ^ width k) (omega (arith, ints)) (omega (arith, ints)) (pow_pos (width k)))

pub fitted_or-of_range : (r : Undefined) (k : Kind) (n : ℤ) → is_in_range k n ≡ true → fitted_or r k n ≡ Ok n
unfolding fitted_or
fitted_or-of_range r k n i = fitted_by-of_range (is_signed k) r k n refl i

-- what a shift to the right gives
pub floor-in_range : (k : Kind) (a : ℤ) (m : ℕ) → is_in_range k a ≡ true → is_in_range k (int_div_euclid a (pos m)) ≡ true
floor-in_range k (pos a) m h = let small = div-le_self a m in in_range-below k (pos a) (pos (a / m)) h (omega (arith, ints)) (omega (arith, ints))
floor-in_range k (negsuc a) m h = let small = div-le_self a m in in_range-above k (negsuc a) (negsuc (a / m)) h (omega (arith, ints)) (omega (arith, ints))

shifted_right-in_range : (t : Bool) (k : Kind) (a n z : ℤ) → is_in_range k a ≡ true → shifted_right t a n ≡ Ok z → is_in_range k z ≡ true
shifted_right-in_range true k a n z h e =
    let s : int_div_euclid a (pos (2 ^ unsigned_abs n)) ≡ z = cc in
    rw (← s) (floor-in_range k a (2 ^ unsigned_abs n) h)
shifted_right-in_range false k a n z h e = cc

shifted_left-in_range : (t : Bool) (k : Kind) (a n z : ℤ) → shifted_left t k a n ≡ Ok z → is_in_range k z ≡ true
shifted_left-in_range true k a n z e = fitted_or-in_range Shift k (a *ℤ pos (2 ^ unsigned_abs n)) z e
shifted_left-in_range false k a n z e = cc

quotient_by-in_range : (t : Bool) (k : Kind) (a b z : ℤ) → quotient_by t k a b ≡ Ok z → is_in_range k z ≡ true
quotient_by-in_range true k a b z e = cc
quotient_by-in_range false k a b z e = fitted-in_range k (int_div a b) z e

quotient-in_range : (k : Kind) (a b z : ℤ) → quotient k a b ≡ Ok z → is_in_range k z ≡ true
unfolding quotient
quotient-in_range k a b z e = quotient_by-in_range (unsigned_abs b == 0) k a b z e

-- what a quotient leaves
neg-above : (n m : ℕ) → m ≤ suc n → negsuc n ≤ℤ neg_ℤ (pos m)
neg-above n m h = omega (arith, ints)

neg-below : (m : ℕ) → neg_ℤ (pos m) ≤ℤ pos 0
neg-below m = omega (arith, ints)

pub int_rem-in_range : (k : Kind) (a b : ℤ) → is_in_range k a ≡ true → is_in_range k (int_rem a b) ≡ true
int_rem-in_range k (pos a) b h = let small = mod-le a (unsigned_abs b) in in_range-below k (pos a) (int_rem (pos a) b) h (omega (arith, ints)) (omega (arith, ints))
int_rem-in_range k (negsuc a) b h = in_range-above k (negsuc a) (int_rem (negsuc a) b) h (neg-above a (suc a % unsigned_abs b) (mod-le (suc a) (unsigned_abs b))) (neg-below (suc a % unsigned_abs b))

pub rest-is : (a b : ℤ) → a -ℤ int_div a b *ℤ b ≡ int_rem a b
rest-is a b = let e = quot-rem a b in omega (arith, ints)

-- the quotient of two numbers of an unsigned kind
div-in_range : (k : Kind) (a b : ℤ) → is_signed k ≡ false → is_in_range k a ≡ true → is_in_range k b ≡ true → is_in_range k (int_div a b) ≡ true
div-in_range k (pos a) (pos b) s h i = let small = div-le_self a b in in_range-below k (pos a) (pos (a / b)) h (omega (arith, ints)) (omega (arith, ints))
div-in_range k (pos a) (negsuc b) s h i = let low = in_range-least k (negsuc b) i in let from = unsigned-least k s in absurd (omega (arith, ints))
div-in_range k (negsuc a) b s h i = let low = in_range-least k (negsuc a) h in let from = unsigned-least k s in absurd (omega (arith, ints))

within-is : (r : Undefined) (t : Bool) (n z : ℤ) → within r t n ≡ Ok z → z ≡ n
within-is r true n z e = cc
within-is r false n z e = cc

fitted_by-is : (s : Bool) (r : Undefined) (k : Kind) (n z : ℤ) → is_signed k ≡ s → (is_signed k ≡ false → is_in_range k n ≡ true) → fitted_by s r k n ≡ Ok z → z ≡ n
fitted_by-is true r k n z h i e = within-is r (is_in_range k n) n z e
fitted_by-is false r k n z h i e = let f = fitted_by-of_range false r k n h (i h) in cc

fitted-is : (k : Kind) (n z : ℤ) → (is_signed k ≡ false → is_in_range k n ≡ true) → fitted k n ≡ Ok z → z ≡ n
unfolding fitted fitted_or
fitted-is k n z i e = fitted_by-is (is_signed k) Overflow k n z refl i e

quotient_by-is : (t : Bool) (k : Kind) (a b z : ℤ) → is_in_range k a ≡ true → is_in_range k b ≡ true → quotient_by t k a b ≡ Ok z → z ≡ int_div a b
quotient_by-is true k a b z h i e = cc
quotient_by-is false k a b z h i e = fitted-is k (int_div a b) z (λ s. div-in_range k a b s h i) e

-- a quotient that there is, is the mathematical one
pub quotient-is : (k : Kind) (a b z : ℤ) → is_in_range k a ≡ true → is_in_range k b ≡ true → quotient k a b ≡ Ok z → z ≡ int_div a b
unfolding quotient
quotient-is k a b z h i e = quotient_by-is (unsigned_abs b == 0) k a b z h i e

rest-in_range : (q : Result ℤ Undefined) (k : Kind) (a b z : ℤ) → is_in_range k a ≡ true → is_in_range k b ≡ true → quotient k a b ≡ q → rest q a b ≡ Ok z → is_in_range k z ≡ true
rest-in_range (Ok q) k a b z h i e f =
    let is : q ≡ int_div a b = quotient-is k a b q h i e in
    let left : z ≡ a -ℤ q *ℤ b = cc in
    let same : z ≡ int_rem a b = left ∙ ap (λ x. a -ℤ x *ℤ b) is ∙ rest-is a b in
    rw same (int_rem-in_range k a b h)
rest-in_range (Err r) k a b z h i e f = cc

bitwise-in_range : (bit : ℕ → ℕ → ℕ) (k : Kind) (a b : ℤ) → is_in_range k (bitwise bit k a b) ≡ true
unfolding bitwise
bitwise-in_range bit k a b = converted-in_range k _

-- what an operator gives lies in its kind's range, where the left operand does, and the right one but for the count of a shift
pub result-in_range : (op : BinOp) (k : Kind) (a b z : ℤ) → is_in_range k a ≡ true → is_right_operand op k b ≡ true → operated op k a b ≡ Ok z → is_in_range k z ≡ true
unfolding operated is_right_operand
result-in_range Add k a b z h i e = fitted-in_range k (a +ℤ b) z e
result-in_range Sub k a b z h i e = fitted-in_range k (a -ℤ b) z e
result-in_range Mul k a b z h i e = fitted-in_range k (a *ℤ b) z e
result-in_range Div k a b z h i e = quotient-in_range k a b z e
result-in_range Rem k a b z h i e = rest-in_range (quotient k a b) k a b z h i refl e
result-in_range Shl k a b z h i e = shifted_left-in_range (is_count k b && not (int_lt a (pos 0))) k a b z e
result-in_range Shr k a b z h i e = shifted_right-in_range (is_count k b) k a b z h e
result-in_range BitAnd k a b z h i e = let s : bitwise min k a b ≡ z = cc in rw (← s) (bitwise-in_range min k a b)
result-in_range BitOr k a b z h i e = let s : bitwise max k a b ≡ z = cc in rw (← s) (bitwise-in_range max k a b)
result-in_range BitXor k a b z h i e = let s : bitwise (λ x y. (x + y) % 2) k a b ≡ z = cc in rw (← s) (bitwise-in_range (λ x y. (x + y) % 2) k a b)

pub right_operand_in_range : (op : BinOp) (k : Kind) (b : ℤ) → is_in_range k b ≡ true → is_right_operand op k b ≡ true
unfolding is_right_operand
right_operand_in_range Add k b i = i
right_operand_in_range Sub k b i = i
right_operand_in_range Mul k b i = i
right_operand_in_range Div k b i = i
right_operand_in_range Rem k b i = i
right_operand_in_range Shl k b i = refl
right_operand_in_range Shr k b i = refl
right_operand_in_range BitAnd k b i = i
right_operand_in_range BitOr k b i = i
right_operand_in_range BitXor k b i = i

-- what an operator gives of two numbers of its kind lies in the kind's range
pub operated-in_range : (op : BinOp) (k : Kind) (a b z : ℤ) → is_in_range k a ≡ true → is_in_range k b ≡ true → operated op k a b ≡ Ok z → is_in_range k z ≡ true
operated-in_range op k a b z h i e = result-in_range op k a b z h (right_operand_in_range op k b i) e

pub negated-in_range : (k : Kind) (a z : ℤ) → negated k a ≡ Ok z → is_in_range k z ≡ true
unfolding negated
negated-in_range k a z e = fitted-in_range k (neg_ℤ a) z e

pub flipped-in_range : (k : Kind) (a : ℤ) → is_in_range k (flipped k a) ≡ true
unfolding flipped
flipped-in_range k a = converted-in_range k _
