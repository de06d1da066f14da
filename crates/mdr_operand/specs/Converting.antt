-- believed
-- Which values become values of other types: as if by assignment (C99 6.3.2.3, 6.5.16.1), and by a cast (6.5.4).
use Rattle.std.specs.Prelude.{ℕ, List, Option, Some, None}
use Rattle.mdr_rich.specs.declared.code.Expr.{Expr}
use Rattle.mdr_rich.specs.declared.code.Expr.TheVariants as expr
use Rattle.mdr_core.specs.declared.kind.Kind.{Kind}
use Rattle.mdr_core.specs.declared.place.Place.{Place}
use Rattle.mdr_core.specs.declared.types.Ty.{Ty, out-Ty}
use Rattle.mdr_core.specs.declared.types.Ty.TheOpen.{Ty-F}
use Rattle.mdr_core.specs.Layout.{chosen}
use Rattle.mdr_syntax.specs.declared.tree.Base.{Base}
use Rattle.mdr_operand.specs.declared.operand.Operand.{Operand}
use Rattle.mdr_operand.specs.declared.operand.Operand.TheVariants as operand
use Rattle.mdr_operand.specs.declared.operand.Scalar.{Scalar}
use Rattle.mdr_operand.specs.declared.operand.Scalar.TheVariants as scalar
use Rattle.mdr_faults.specs.declared.scope.Scope.{Scope}
use Rattle.mdr_faults.specs.Alike.{is_alike, are_alike}
use Rattle.mdr_faults.specs.Declarations.{type_named}
use Rattle.mdr_faults.specs.Faults.{Checked, Right, after, both}
use Rattle.mdr_operand.specs.Forms.{at_kind, is_null, needed, null_pointer, scalar_of, value_of}

-- ---- values of a type as values of another

-- integers convert (6.3.1)
abbrev pub number_as : Expr → Kind → Ty-F Ty → Option Expr
number_as e k (Ty-F.Int l) = Some (at_kind l (record { value = e; kind = k }))
number_as e k t = None

-- a pointer to an object becomes one to the same type, or a `void *` (6.3.2.3, paragraph 1)
abbrev pub pointer_as : Expr → Ty → Ty-F Ty → Option Expr
pointer_as e t (Ty-F.Ptr u) = chosen (is_alike t u) (Some e) None
pointer_as e t Ty-F.VoidPtr = Some (expr.ToVoid e)
pointer_as e t u = None

-- a `void *` becomes a pointer to any object
abbrev pub opaque_as : Expr → Ty-F Ty → Option Expr
opaque_as e (Ty-F.Ptr u) = Some (expr.FromVoid u e)
opaque_as e Ty-F.VoidPtr = Some e
opaque_as e u = None

-- a pointer to a function keeps its type
abbrev pub handle_as : Expr → List Ty → Ty-F Ty → Option Expr
handle_as e ts (Ty-F.Fun us) = chosen (are_alike ts us) (Some e) None
handle_as e ts u = None

unfoldable pub scalar_as : Scalar → Ty → Option Expr
scalar_as (scalar.Number e k) t = number_as e k (out-Ty t)
scalar_as (scalar.Pointer e u) t = pointer_as e u (out-Ty t)
scalar_as (scalar.Opaque e) t = opaque_as e (out-Ty t)
scalar_as (scalar.Handle e ts) t = handle_as e ts (out-Ty t)

-- a null pointer of any pointer type (6.3.2.3, paragraph 3)
abbrev pub null_by : Ty-F Ty → Option Expr
null_by (Ty-F.Int k) = None
null_by Ty-F.Lock = None
null_by (Ty-F.Struct s) = None
null_by (Ty-F.Ptr t) = Some null_pointer
null_by Ty-F.VoidPtr = Some null_pointer
null_by (Ty-F.Fun ts) = Some null_pointer
null_by Ty-F.Void = None

unfoldable pub null_as : Ty → Option Expr
null_as t = null_by (out-Ty t)

abbrev pub value_as : Option Scalar → Ty → Option Expr
value_as None t = None
value_as (Some v) t = scalar_as v t

abbrev pub first_of : {A : Type 0} → Option A → Option A → Option A
first_of (Some x) other = Some x
first_of None other = other

-- ---- casts

-- an operand's value as one of the type. A literal zero is a number here, and a `NULL` a `void *`
unfoldable pub cast_as : Operand → Ty → Option Expr
cast_as x t = value_as (value_of x) t

abbrev pub value_of_type : Option Expr → Ty → Option Scalar
value_of_type None t = None
value_of_type (Some e) t = scalar_of e t

-- what a cast gives is no lvalue (6.5.4, paragraph 4)
abbrev pub cast_value : Scalar → Checked Operand
cast_value v = Right (operand.Value v)

unfoldable pub cast_to : Place → Ty → Operand → Checked Operand
cast_to p t x = after (needed p (value_of_type (cast_as x t) t)) cast_value

unfoldable pub cast_rule : Scope → Place → Base → (stars : ℕ) → Checked Operand → Checked Operand
cast_rule scope p b n c = both (type_named scope b n) c (cast_to p)

-- ---- as if by assignment

-- a null pointer constant as a value of the type: a null pointer, and else a literal zero is a number
unfoldable pub constant_as : Operand → Ty → Option Expr
constant_as x t = first_of (null_as t) (cast_as x t)

unfoldable pub operand_as : Operand → Ty → Option Expr
operand_as x t = chosen (is_null x) (constant_as x t) (cast_as x t)

-- an operand of the form at place p as a value of the type
unfoldable pub converted_at : Place → Ty → Operand → Checked Expr
converted_at p t x = needed p (operand_as x t)
