-- for proofs
-- What an expression comes to, as something of a program: with the types that the program's own rules give it (C99 6.5).
use Rattle.std.specs.Prelude.{◌≡◌, ◌⊎◌, ℕ, false, List, length, Some, slice_get, IsTrue}
use Rattle.mdr_rich.specs.declared.code.Expr.{Expr}
use Rattle.mdr_rich.specs.declared.code.Lval.{Lval}
use Rattle.mdr_core.specs.declared.program.Func.{Func}
use Rattle.mdr_core.specs.declared.program.Program.{Program}
use Rattle.mdr_core.specs.declared.types.Ty.{Ty}
use Rattle.mdr_core.specs.declared.types.Ty.TheVariants as type
use Rattle.mdr_rich.specs.Folds.{term_of, lvalue_of}
use Rattle.mdr_core.specs.Types.{Scalar as ScalarSort, is_scalar, sort_of}
use Rattle.mdr_core.specs.Typing.{Slot, One, Many, function_type}
use Rattle.mdr_rich.specs.Typing.{Has, Designates, HasAddress, IsNoLiteral}
use Rattle.mdr_operand.specs.declared.operand.Operand.{Operand}
use Rattle.mdr_operand.specs.declared.operand.Operand.TheVariants as operand
use Rattle.mdr_operand.specs.declared.operand.Scalar.{Scalar}
use Rattle.mdr_operand.specs.declared.operand.Scalar.TheVariants as scalar
use Rattle.mdr_operand.specs.declared.room.LocalName.{LocalName}
use Rattle.mdr_operand.specs.Rooms.{local_named}
use Rattle.mdr_operand.specs.Written.{Written}
use Rattle.mdr_sound.specs.Knowing.{IsFormed}

-- an expression of the type
abbrev pub IsOf : Program → List Slot → Expr → Ty → Type 0
IsOf program slots e t = Has program slots (term_of e) t

pub record IsPointer (program : Program) (slots : List Slot) (e : Expr) (t : Ty) : Type 0 where
  pub value : IsOf program slots e (type.Ptr t)
  pub formed : IsFormed program t
  pub no_literal : IsNoLiteral (term_of e)

-- a pointer to a function, whose parameters are scalars
pub record IsHandle (program : Program) (slots : List Slot) (e : Expr) (ts : List Ty) : Type 0 where
  pub value : IsOf program slots e (type.Fun ts)
  pub formed : sort_of (length program.structs) (type.Fun ts) ≡ ScalarSort

abbrev pub IsKnownValue : Program → List Slot → Scalar → Type 0
IsKnownValue program slots (scalar.Number e k) = IsOf program slots e (type.Int k)
IsKnownValue program slots (scalar.Pointer e t) = IsPointer program slots e t
IsKnownValue program slots (scalar.Opaque e) = IsOf program slots e type.VoidPtr
IsKnownValue program slots (scalar.Handle e ts) = IsHandle program slots e ts

-- what is written is the name of a local that lies in a slot
pub record IsSlotNamed (names : List LocalName) (name : List ℕ) : Type 0 where
  pub local : LocalName
  pub named : local_named names name ≡ Some local
  pub in_slot : local.is_object ≡ false

abbrev pub IsInSlot : List LocalName → Written → Type 0
IsInSlot names (Written.Number p n k) = ⊥
IsInSlot names (Written.Null p) = ⊥
IsInSlot names (Written.Name p name) = IsSlotNamed names name
IsInSlot names (Written.Prefix p op a) = ⊥
IsInSlot names (Written.Post p op a) = ⊥
IsInSlot names (Written.Cast p base n a) = ⊥
IsInSlot names (Written.Binary p op a b) = ⊥
IsInSlot names (Written.Choice p c a b) = ⊥
IsInSlot names (Written.Subscript p a i) = ⊥
IsInSlot names (Written.Member p a is_arrow at name) = ⊥
IsInSlot names (Written.Call p f args) = ⊥
IsInSlot names (Written.Text p bytes) = ⊥
IsInSlot names (Written.Names p base n) = ⊥

-- an object. It has an address, but for a scalar that lies in a slot, which is its name alone
pub record IsKnownObject (program : Program) (slots : List Slot) (names : List LocalName) (w : Written) (l : Lval) (t : Ty) : Type 0 where
  pub designates : Designates program slots (lvalue_of l) (One t)
  pub formed : IsFormed program t
  pub kept : HasAddress (lvalue_of l) ⊎ (IsInSlot names w × IsTrue (is_scalar t))

-- an array, which is never in a slot
pub record IsKnownArray (program : Program) (slots : List Slot) (l : Lval) (t : Ty) (n : ℕ) : Type 0 where
  pub designates : Designates program slots (lvalue_of l) (Many t n)
  pub formed : IsFormed program t
  pub kept : HasAddress (lvalue_of l)

pub record IsFunctionNamed (program : Program) (f : ℕ) (ts : List Ty) : Type 0 where
  pub func : Func
  pub names : slice_get program.funcs f ≡ Some func
  pub types : function_type func ≡ type.Fun ts
  pub formed : sort_of (length program.structs) (type.Fun ts) ≡ ScalarSort

-- what the expression w comes to
abbrev pub IsKnown : Program → List Slot → List LocalName → Written → Operand → Type 0
IsKnown program slots names w (operand.Value v) = IsKnownValue program slots v
IsKnown program slots names w (operand.Zero k) = Unit {0}
IsKnown program slots names w operand.Null = Unit {0}
IsKnown program slots names w (operand.Object l t) = IsKnownObject program slots names w l t
IsKnown program slots names w (operand.Array l t n) = IsKnownArray program slots l t n
IsKnown program slots names w (operand.Function f ts) = IsFunctionNamed program f ts
