-- believed
-- Values as trees have them.
use Rattle.std.specs.Prelude.{ℕ, min, Bool, true, false, not, List, [], ◌∷◌, ℤ, pos, negsuc, Result, Ok, Err}
use Rattle.std.specs.Ordering.{int_eq}
use Rattle.mdr_core.specs.declared.code.BinOp.{BinOp}
use Rattle.mdr_core.specs.declared.code.BinOp.TheVariants.{Shl, Shr}
use Rattle.mdr_core.specs.declared.kind.Kind.{Kind}
use Rattle.mdr_core.specs.declared.kind.Kind.TheVariants.{S32}
use Rattle.mdr_core.specs.declared.stop.StopKind.{StopKind}
use Rattle.mdr_core.specs.declared.stop.StopKind.TheVariants as stop
use Rattle.mdr_core.specs.declared.undefined.Undefined.{Undefined}
use Rattle.mdr_core.specs.declared.undefined.Undefined.TheVariants as undefined
use Rattle.mdr_core.specs.declared.value.Value.{Value}
use Rattle.mdr_core.specs.declared.value.Value.TheVariants as value
use Rattle.mdr_core.specs.declared.value.View.{View}
use Rattle.mdr_core.specs.Conversions.{converted}
use Rattle.mdr_meaning.specs.declared.wire.Wire.{Wire}
use Rattle.mdr_meaning.specs.declared.wire.Wire.TheVariants as wire
use Rattle.mdr_meaning.specs.declared.wire.WireView.{WireView}

-- a value, where a condition holds, or a stop
abbrev pub checked : {A : Type 0} → Bool → StopKind → A → Result A StopKind
checked true kind x = Ok x
checked false kind x = Err kind

-- ---- values of a program's text, whose pointers name globals

abbrev pub wire_view : View → WireView
wire_view p = record { serial = p.block.serial; first = p.first; ty = p.ty; count = p.count; index = p.index }

abbrev pub wire_of : Value → Wire
wire_of (value.Int k n) = wire.Int k n
wire_of value.Null = wire.Null
wire_of (value.Ptr p) = wire.Ptr (wire_view p)
wire_of value.Dead = wire.Dead
wire_of (value.Fn f) = wire.Fn f
wire_of (value.Lock s) = wire.Lock s
wire_of value.NoValue = wire.NoValue

-- ---- numbers

-- the number of an integer; no other value is asked for its number
abbrev pub integer : Wire → ℤ
integer (wire.Int k n) = n
integer _ = pos 0

abbrev pub natural_of : ℤ → ℕ
natural_of (pos n) = n
natural_of (negsuc n) = 0

-- the same where it isn't negative
abbrev pub natural : Wire → ℕ
natural v = natural_of (integer v)

-- a number as one of 32 or of 64 bits: the greatest of these where it is greater, which no number of a sound program is
abbrev pub saturated_u32 : ℕ → ℕ
saturated_u32 n = min n 4294967295

abbrev pub saturated_u64 : ℕ → ℕ
saturated_u64 n = min n 18446744073709551615

-- ---- operators

-- what an operator works on at a kind (6.3.1.8)
abbrev pub operand : Kind → Wire → ℤ
operand kind v = converted kind (integer v)

-- the same of the number to its right: the count of a shift has a kind of its own (6.5.7, paragraph 3)
abbrev pub right_operand : BinOp → Kind → ℤ → ℤ
right_operand Shl kind n = n
right_operand Shr kind n = n
right_operand op kind n = converted kind n

-- what an operator leaves undefined stops (6.5, paragraph 5; 6.5.5, paragraph 5; 6.5.7, paragraph 3)
abbrev pub stop_of : Undefined → StopKind
stop_of undefined.Overflow = stop.Overflow
stop_of undefined.DivZero = stop.DivZero
stop_of undefined.Shift = stop.Shift

-- the result of an operator at a kind
abbrev pub at_kind : Kind → Result ℤ Undefined → Result Wire StopKind
at_kind kind (Ok n) = Ok (wire.Int kind n)
at_kind kind (Err why) = Err (stop_of why)

-- ---- conditions

-- whether a scalar compares unequal to 0 (6.8.4.1, paragraph 2)
abbrev pub is_true : Wire → Bool
is_true (wire.Int k n) = not (int_eq n (pos 0))
is_true wire.Null = false
is_true _ = true

-- the int 1 or 0 (6.5.3.3, paragraph 5; 6.5.8, paragraph 6; 6.5.13, paragraph 3)
abbrev pub truth : Bool → Wire
truth true = wire.Int S32 (pos 1)
truth false = wire.Int S32 (pos 0)

-- ---- lists of values

abbrev pub first_of : List Wire → Wire
first_of [] = wire.NoValue
first_of (v ∷ vs) = v

abbrev pub rest_of : List Wire → List Wire
rest_of [] = []
rest_of (v ∷ vs) = vs
