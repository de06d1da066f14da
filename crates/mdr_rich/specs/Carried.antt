-- believed
-- The type of a form, from the types that its parts carry (C99 6.5). A literal that is no number has no one type.
use Rattle.mdr_core.specs.declared.kind.Kind.TheVariants.{S32, S64}
use Rattle.mdr_core.specs.declared.types.Ty.{Ty, out-Ty}
use Rattle.mdr_core.specs.declared.types.Ty.TheOpen.{Ty-F}
use Rattle.mdr_core.specs.declared.types.Ty.TheVariants as type
use Rattle.mdr_core.specs.declared.value.Value.{Value}
use Rattle.mdr_core.specs.declared.value.Value.TheVariants as value
use Rattle.mdr_rich.specs.Code.{Term, Lvalue}

abbrev pub literal_type : Value → Ty
literal_type (value.Int k n) = type.Int k
literal_type value.Null = type.VoidPtr
literal_type (value.Ptr v) = type.VoidPtr
literal_type value.Dead = type.VoidPtr
literal_type (value.Fn f) = type.VoidPtr
literal_type (value.Lock s) = type.Lock
literal_type value.NoValue = type.Void

abbrev pub target_by : Ty-F Ty → Ty
target_by (Ty-F.Int k) = type.Void
target_by Ty-F.Lock = type.Void
target_by (Ty-F.Struct s) = type.Void
target_by (Ty-F.Ptr t) = t
target_by Ty-F.VoidPtr = type.Void
target_by (Ty-F.Fun ts) = type.Void
target_by Ty-F.Void = type.Void

-- what a pointer of the type points to
abbrev pub target_of : Ty → Ty
target_of t = target_by (out-Ty t)

abbrev mutual
  pub type_of : Term → Ty
  type_of (Term.Lit v) = literal_type v
  type_of (Term.Load p) = type_at p
  type_of (Term.Addr p) = type.Ptr (type_at p)
  type_of (Term.Decay p) = type.Ptr (type_at p)
  type_of (Term.Neg k e) = type.Int k
  type_of (Term.Flip k e) = type.Int k
  type_of (Term.Not e) = type.Int S32
  type_of (Term.Bin op k a b) = type.Int k
  type_of (Term.Rel op a b) = type.Int S32
  type_of (Term.And a b) = type.Int S32
  type_of (Term.Or a b) = type.Int S32
  type_of (Term.Conv k e) = type.Int k
  type_of (Term.ToVoid e) = type.VoidPtr
  type_of (Term.FromVoid t e) = type.Ptr t
  type_of (Term.Move back p i) = type_of p
  type_of (Term.Diff p q) = type.Int S64
  type_of (Term.Cond t c a b) = t
  type_of (Term.Call t f args shape format) = t
  type_of (Term.Bump t up first p) = t

  -- the type of what an lvalue designates, of an array that of its elements
  pub type_at : Lvalue → Ty
  type_at (Lvalue.Slot i t) = t
  type_at (Lvalue.Object i t) = t
  type_at (Lvalue.Global g t) = t
  type_at (Lvalue.Deref e) = target_of (type_of e)
  type_at (Lvalue.Member p f t) = t
  type_at (Lvalue.Index p e) = type_at p
