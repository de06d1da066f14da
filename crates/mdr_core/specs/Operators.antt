-- believed
-- The operators of C on integers of one kind (C99 6.5).
use Rattle.std.specs.Prelude.{ℕ, ◌+◌, ◌-◌, ◌%◌, ◌^◌, min, max, Bool, true, false, not, ◌&&◌, ◌==◌, Result, Ok, Err, ℤ, pos, ◌+ℤ◌, ◌-ℤ◌, ◌*ℤ◌, neg_ℤ, int_lt, int_div, unsigned_abs}
use Rattle.std.specs.Int.{int_div_euclid, int_rem_euclid}
use Rattle.mdr_core.specs.declared.kind.Kind.{Kind}
use Rattle.mdr_core.specs.declared.undefined.Undefined.{Undefined}
use Rattle.mdr_core.specs.declared.undefined.Undefined.TheVariants.{Overflow, DivZero, Shift}
use Rattle.mdr_core.specs.declared.code.BinOp.{BinOp}
use Rattle.mdr_core.specs.declared.code.BinOp.TheVariants.{Add, Sub, Mul, Div, Rem, Shl, Shr, BitAnd, BitOr, BitXor}
use Rattle.mdr_core.specs.Bits.{bit_of, of_bits}
use Rattle.mdr_core.specs.Conversions.{converted}
use Rattle.mdr_core.specs.Kinds.{width, is_signed, is_in_range}

-- a number that has to lie in its kind's range, or the reason
abbrev pub within : Undefined → Bool → ℤ → Result ℤ Undefined
within reason true n = Ok n
within reason false n = Err reason

-- a mathematical result at a kind that is signed or not: at an unsigned one modulo 2^N (6.2.5, paragraph 9), at a signed one undefined where it is out of range (6.5, paragraph 5)
abbrev pub fitted_by : Bool → Undefined → Kind → ℤ → Result ℤ Undefined
fitted_by true reason k n = within reason (is_in_range k n) n
fitted_by false reason k n = Ok (int_rem_euclid n (pos (2 ^ width k)))

unfoldable pub fitted_or : Undefined → Kind → ℤ → Result ℤ Undefined
fitted_or reason k n = fitted_by (is_signed k) reason k n

unfoldable pub fitted : Kind → ℤ → Result ℤ Undefined
fitted k n = fitted_or Overflow k n

-- the quotient by a number that is zero or not: truncated toward zero (6.5.5, paragraphs 5 and 6)
abbrev pub quotient_by : Bool → Kind → ℤ → ℤ → Result ℤ Undefined
quotient_by true k a b = Err DivZero
quotient_by false k a b = fitted k (int_div a b)

unfoldable pub quotient : Kind → ℤ → ℤ → Result ℤ Undefined
quotient k a b = quotient_by (unsigned_abs b == 0) k a b

-- what a quotient q leaves of a, so that q * b and it make a (6.5.5, paragraph 6)
abbrev pub rest : Result ℤ Undefined → ℤ → ℤ → Result ℤ Undefined
rest (Ok q) a b = Ok (a -ℤ q *ℤ b)
rest (Err reason) a b = Err reason

-- whether a kind's shift takes a count: it isn't negative, and less than the width (6.5.7, paragraph 3)
abbrev pub is_count : Kind → ℤ → Bool
is_count k n = not (int_lt n (pos 0)) && int_lt n (pos (width k))

-- a shift to the left, where it may be made or not: a * 2^n (6.5.7, paragraph 4)
abbrev pub shifted_left : Bool → Kind → ℤ → ℤ → Result ℤ Undefined
shifted_left true k a n = fitted_or Shift k (a *ℤ pos (2 ^ unsigned_abs n))
shifted_left false k a n = Err Shift

-- a shift to the right: a / 2^n, rounded down (6.5.7, paragraph 5; so that of a negative number copies the sign bit)
abbrev pub shifted_right : Bool → ℤ → ℤ → Result ℤ Undefined
shifted_right true a n = Ok (int_div_euclid a (pos (2 ^ unsigned_abs n)))
shifted_right false a n = Err Shift

-- each bit of the result from the bits of a and b at its place (6.5.10 to 6.5.12)
unfoldable pub bitwise : (ℕ → ℕ → ℕ) → Kind → ℤ → ℤ → ℤ
bitwise bit k a b = converted k (pos (of_bits (width k) (λ i. bit (bit_of a i) (bit_of b i))))

-- the result of a binary operator at a kind
unfoldable pub operated : BinOp → Kind → ℤ → ℤ → Result ℤ Undefined
operated Add k a b = fitted k (a +ℤ b)
operated Sub k a b = fitted k (a -ℤ b)
operated Mul k a b = fitted k (a *ℤ b)
operated Div k a b = quotient k a b
operated Rem k a b = rest (quotient k a b) a b
operated Shl k a b = shifted_left (is_count k b && not (int_lt a (pos 0))) k a b
operated Shr k a b = shifted_right (is_count k b) a b
operated BitAnd k a b = Ok (bitwise min k a b)
operated BitOr k a b = Ok (bitwise max k a b)
operated BitXor k a b = Ok (bitwise (λ x y. (x + y) % 2) k a b)

-- the number with the sign changed (6.5.3.3, paragraph 3)
unfoldable pub negated : Kind → ℤ → Result ℤ Undefined
negated k a = fitted k (neg_ℤ a)

-- each bit turned (6.5.3.3, paragraph 4)
unfoldable pub flipped : Kind → ℤ → ℤ
flipped k a = converted k (pos (of_bits (width k) (λ i. 1 - bit_of a i)))

-- whether a number may stand to the right of an operator at a kind: the count of a shift has a kind of its own
unfoldable pub is_right_operand : BinOp → Kind → ℤ → Bool
is_right_operand Add k b = is_in_range k b
is_right_operand Sub k b = is_in_range k b
is_right_operand Mul k b = is_in_range k b
is_right_operand Div k b = is_in_range k b
is_right_operand Rem k b = is_in_range k b
is_right_operand Shl k b = true
is_right_operand Shr k b = true
is_right_operand BitAnd k b = is_in_range k b
is_right_operand BitOr k b = is_in_range k b
is_right_operand BitXor k b = is_in_range k b
