-- believed
-- Values: the types of a table, which values are the same, and the values of events.
use Rattle.std.specs.Prelude.{ℕ, Bool, true, false, ◌&&◌, Option, ◌==◌, slice_get}
use Rattle.std.specs.Ordering.{int_eq}
use Rattle.mdr_core.specs.declared.types.Ty.{Ty}
use Rattle.mdr_core.specs.declared.value.Value.{Value}
use Rattle.mdr_core.specs.declared.value.Value.TheVariants as value
use Rattle.mdr_core.specs.declared.value.LockState.{LockState}
use Rattle.mdr_core.specs.declared.value.LockState.TheVariants.{Free, Spin, Sleep}
use Rattle.mdr_core.specs.declared.program.Program.{Program}
use Rattle.mdr_core.specs.Kinds.{is_same_kind}
use Rattle.mdr_meaning.specs.declared.wire.Wire.{Wire}
use Rattle.mdr_meaning.specs.declared.wire.Wire.TheVariants as wire
use Rattle.mdr_meaning.specs.declared.wire.WireView.{WireView}
use Rattle.mdr_meaning.specs.Fit.{view_of}

-- ---- names of types

-- the type with a number
abbrev pub type_at : Program → ℕ → Option Ty
type_at program n = slice_get program.types n

-- ---- pointers

-- a value is a pointer into the block with this serial
abbrev pub names_block : ℕ → Wire → Bool
names_block serial (wire.Ptr p) = p.serial == serial
names_block serial _ = false

-- ---- which values are the same

abbrev pub lock_number : LockState → ℕ
lock_number Free = 0
lock_number Spin = 1
lock_number Sleep = 2

unfoldable pub is_same_view : WireView → WireView → Bool
is_same_view p q = p.serial == q.serial && p.first == q.first && p.ty == q.ty && p.count == q.count && p.index == q.index

unfoldable pub is_same : Wire → Wire → Bool
is_same (wire.Int k n) (wire.Int l m) = is_same_kind k l && int_eq n m
is_same wire.Null wire.Null = true
is_same (wire.Ptr p) (wire.Ptr q) = is_same_view p q
is_same wire.Dead wire.Dead = true
is_same (wire.Fn f) (wire.Fn g) = f == g
is_same (wire.Lock s) (wire.Lock t) = lock_number s == lock_number t
is_same wire.NoValue wire.NoValue = true
is_same _ _ = false

-- ---- back to code's values

-- a value of an event, in which no slot is meant
abbrev pub value_of : Wire → Value
value_of (wire.Int k n) = value.Int k n
value_of wire.Null = value.Null
value_of (wire.Ptr p) = value.Ptr (view_of p)
value_of wire.Dead = value.Dead
value_of (wire.Fn f) = value.Fn f
value_of (wire.Lock s) = value.Lock s
value_of wire.NoValue = value.NoValue
