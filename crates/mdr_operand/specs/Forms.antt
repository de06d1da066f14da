-- believed
-- Expressions: the rule of each form, over its parts (C99 6.3, 6.5).
use Rattle.std.specs.Prelude.{ℕ, ◌==◌, nat_lt, Bool, true, false, pos, length, Option, Some, None}
use Rattle.mdr_rich.specs.declared.code.Expr.{Expr}
use Rattle.mdr_rich.specs.declared.code.Expr.TheOpen.{Lval-F}
use Rattle.mdr_rich.specs.declared.code.Expr.TheVariants as expr
use Rattle.mdr_rich.specs.declared.code.Lval.{Lval, out-Lval}
use Rattle.mdr_rich.specs.declared.code.Lval.TheVariants as lval
use Rattle.mdr_core.specs.declared.kind.Kind.{Kind}
use Rattle.mdr_core.specs.declared.kind.Kind.TheVariants.{S32}
use Rattle.mdr_core.specs.declared.place.Place.{Place}
use Rattle.mdr_core.specs.declared.types.Ty.{Ty, out-Ty}
use Rattle.mdr_core.specs.declared.types.Ty.TheOpen.{Ty-F}
use Rattle.mdr_core.specs.declared.types.Ty.TheVariants as type
use Rattle.mdr_core.specs.declared.value.Value.TheVariants as value
use Rattle.mdr_core.specs.Conversions.{promoted}
use Rattle.mdr_core.specs.Kinds.{is_same_kind}
use Rattle.mdr_core.specs.Layout.{chosen}
use Rattle.mdr_core.specs.Types.{is_scalar}
use Rattle.mdr_rich.specs.Activity.{is_active, is_active_place}
use Rattle.mdr_rich.specs.Folds.{term_of, lvalue_of}
use Rattle.mdr_faults.specs.declared.fault.FaultKind.TheVariants.{Mismatch, NotAnLvalue}
use Rattle.mdr_operand.specs.declared.operand.Integer.{Integer}
use Rattle.mdr_operand.specs.declared.operand.Operand.{Operand}
use Rattle.mdr_operand.specs.declared.operand.Pointer.{Pointer}
use Rattle.mdr_operand.specs.declared.operand.Operand.TheVariants as operand
use Rattle.mdr_operand.specs.declared.operand.Scalar.{Scalar}
use Rattle.mdr_operand.specs.declared.operand.Scalar.TheVariants as scalar
use Rattle.mdr_operand.specs.declared.operator.PrefixOperator.{PrefixOperator}
use Rattle.mdr_operand.specs.declared.operator.PrefixOperator.TheVariants as prefix
use Rattle.mdr_faults.specs.declared.scope.Scope.{Scope}
use Rattle.mdr_faults.specs.Faults.{Checked, Right, refuse, after}

-- ---- values

abbrev pub scalar_by : Expr → Ty-F Ty → Option Scalar
scalar_by e (Ty-F.Int k) = Some (scalar.Number e k)
scalar_by e Ty-F.Lock = None
scalar_by e (Ty-F.Struct s) = None
scalar_by e (Ty-F.Ptr t) = Some (scalar.Pointer e t)
scalar_by e Ty-F.VoidPtr = Some (scalar.Opaque e)
scalar_by e (Ty-F.Fun ts) = Some (scalar.Handle e ts)
scalar_by e Ty-F.Void = None

-- a value of a type: there are such of scalar types alone
unfoldable pub scalar_of : Expr → Ty → Option Scalar
scalar_of e t = scalar_by e (out-Ty t)

abbrev pub null_pointer : Expr
null_pointer = expr.Lit value.Null

-- the value of an operand: an object is loaded, an array is a pointer to its first element, a function's name a pointer to it (6.3.2.1)
unfoldable pub value_of : Operand → Option Scalar
value_of (operand.Value v) = Some v
value_of (operand.Zero k) = Some (scalar.Number (expr.Lit (value.Int k (pos 0))) k)
value_of operand.Null = Some (scalar.Opaque null_pointer)
value_of (operand.Object l t) = scalar_of (expr.Load l) t
value_of (operand.Array l t n) = Some (scalar.Pointer (expr.Decay l) t)
value_of (operand.Function f ts) = Some (scalar.Handle (expr.Lit (value.Fn f)) ts)

abbrev pub expression_of : Scalar → Expr
expression_of (scalar.Number e k) = e
expression_of (scalar.Pointer e t) = e
expression_of (scalar.Opaque e) = e
expression_of (scalar.Handle e ts) = e

abbrev pub needed : {A : Type 0} → Place → Option A → Checked A
needed p None = refuse p Mismatch
needed p (Some x) = Right x

-- an operand of the form at place p has a scalar type
unfoldable pub scalar_at : Place → Operand → Checked Scalar
scalar_at p x = needed p (value_of x)

-- a value of the type, which is no lvalue, at place p
unfoldable pub value_at : Place → Ty → Expr → Checked Operand
value_at p t e = after (needed p (scalar_of e t)) (λ v. Right (operand.Value v))

-- the type of a value
abbrev pub scalar_type : Scalar → Ty
scalar_type (scalar.Number e k) = type.Int k
scalar_type (scalar.Pointer e t) = type.Ptr t
scalar_type (scalar.Opaque e) = type.VoidPtr
scalar_type (scalar.Handle e ts) = type.Fun ts

-- the type of an operand's value
abbrev pub value_type : Operand → Option Ty
value_type (operand.Value v) = Some (scalar_type v)
value_type (operand.Zero k) = Some (type.Int k)
value_type operand.Null = Some type.VoidPtr
value_type (operand.Object l t) = chosen (is_scalar t) (Some t) None
value_type (operand.Array l t n) = Some (type.Ptr t)
value_type (operand.Function f ts) = Some (type.Fun ts)

-- a call, `++`, `--` or `?:` stands in the operand
abbrev pub is_active_operand : Operand → Bool
is_active_operand (operand.Value v) = is_active (term_of (expression_of v))
is_active_operand (operand.Zero k) = false
is_active_operand operand.Null = false
is_active_operand (operand.Object l t) = is_active_place (lvalue_of l)
is_active_operand (operand.Array l t n) = is_active_place (lvalue_of l)
is_active_operand (operand.Function f ts) = false

abbrev pub integer_by : Scalar → Option Integer
integer_by (scalar.Number e k) = Some (record { value = e; kind = k })
integer_by (scalar.Pointer e t) = None
integer_by (scalar.Opaque e) = None
integer_by (scalar.Handle e ts) = None

-- an operand of the form at place p has an integer type
unfoldable pub integer_at : Place → Operand → Checked Integer
integer_at p x = after (scalar_at p x) (λ v. needed p (integer_by v))

-- what is tested in a condition has a scalar type (6.5.13, 6.5.14, 6.8.4.1, 6.8.5)
unfoldable pub condition_at : Place → Operand → Checked Expr
condition_at p x = after (scalar_at p x) (λ v. Right (expression_of v))

abbrev pub is_number_value : Option Scalar → Bool
is_number_value None = false
is_number_value (Some (scalar.Number e k)) = true
is_number_value (Some (scalar.Pointer e t)) = false
is_number_value (Some (scalar.Opaque e)) = false
is_number_value (Some (scalar.Handle e ts)) = false

-- the operand has an integer type
unfoldable pub is_number : Operand → Bool
is_number x = is_number_value (value_of x)

-- a null pointer constant (6.3.2.3, paragraph 3)
abbrev pub is_null : Operand → Bool
is_null (operand.Value v) = false
is_null (operand.Zero k) = true
is_null operand.Null = true
is_null (operand.Object l t) = false
is_null (operand.Array l t n) = false
is_null (operand.Function f ts) = false

abbrev pub pointer_by : Scalar → Option Pointer
pointer_by (scalar.Number e k) = None
pointer_by (scalar.Pointer e t) = Some (record { value = e; ty = t })
pointer_by (scalar.Opaque e) = None
pointer_by (scalar.Handle e ts) = None

-- an operand of the form at place p is a pointer to an object
unfoldable pub pointer_at : Place → Operand → Checked Pointer
pointer_at p x = after (scalar_at p x) (λ v. needed p (pointer_by v))

-- ---- types of objects whose size is known (6.2.5)

abbrev pub is_complete_by : Scope → Ty-F Ty → Bool
is_complete_by scope (Ty-F.Int k) = true
is_complete_by scope Ty-F.Lock = true
is_complete_by scope (Ty-F.Struct s) = nat_lt s (length scope.structs)
is_complete_by scope (Ty-F.Ptr t) = true
is_complete_by scope Ty-F.VoidPtr = true
is_complete_by scope (Ty-F.Fun ts) = true
is_complete_by scope Ty-F.Void = false

-- pointers to complete types alone are moved (6.5.6, paragraph 2)
unfoldable pub is_complete : Scope → Ty → Bool
is_complete scope t = is_complete_by scope (out-Ty t)

-- ---- integers converted (6.3.1)

unfoldable pub at_kind : Kind → Integer → Expr
at_kind k n = chosen (is_same_kind k n.kind) n.value (expr.Conv k n.value)

abbrev pub number : Expr → Kind → Operand
number e k = operand.Value (scalar.Number e k)

-- what a test gives is an `int` (6.5.3.3, 6.5.8, 6.5.9, 6.5.13, 6.5.14)
abbrev pub truth : Expr → Operand
truth e = number e S32

-- a literal of value 0 may be a null pointer (6.4.4, 6.3.2.3)
unfoldable pub literal : ℕ → Kind → Operand
literal n k = chosen (n == 0) (operand.Zero k) (number (expr.Lit (value.Int k (pos n))) k)

unfoldable pub promoted_number : Integer → Operand
promoted_number n = number (at_kind (promoted n.kind) n) (promoted n.kind)

unfoldable pub negated_number : Integer → Operand
negated_number n = number (expr.Neg (promoted n.kind) (at_kind (promoted n.kind) n)) (promoted n.kind)

unfoldable pub flipped_number : Integer → Operand
flipped_number n = number (expr.Flip (promoted n.kind) (at_kind (promoted n.kind) n)) (promoted n.kind)

-- ---- addresses (6.5.3.2)

-- `&*p` is p and `&a[i]` is a + i: what they name isn't evaluated (paragraph 3)
abbrev pub address_by : Lval-F Expr Lval → Expr
address_by (Lval-F.Slot i t) = expr.Addr (lval.Slot i t)
address_by (Lval-F.Object i t) = expr.Addr (lval.Object i t)
address_by (Lval-F.Global g t) = expr.Addr (lval.Global g t)
address_by (Lval-F.Deref e) = e
address_by (Lval-F.Member l f t) = expr.Addr (lval.Member l f t)
address_by (Lval-F.Index l e) = expr.Move false (expr.Decay l) e

unfoldable pub address_of : Lval → Expr
address_of l = address_by (out-Lval l)

abbrev pub object_address : Lval → Ty → Operand
object_address l t = operand.Value (scalar.Pointer (address_of l) t)

-- the operand of `&` is an lvalue or a function's name (paragraph 1). There are no pointers to arrays
unfoldable pub address : Place → Operand → Checked Operand
address p (operand.Value v) = refuse p NotAnLvalue
address p (operand.Zero k) = refuse p NotAnLvalue
address p operand.Null = refuse p NotAnLvalue
address p (operand.Object l t) = Right (object_address l t)
address p (operand.Array l t n) = refuse p Mismatch
address p (operand.Function f ts) = Right (operand.Value (scalar.Handle (expr.Lit (value.Fn f)) ts))

-- what a pointer names (paragraph 4)
abbrev pub target_object : Pointer → Operand
target_object x = operand.Object (lval.Deref x.value) x.ty

-- ---- prefix forms (6.5.3)

unfoldable pub promotion_at : Place → Operand → Checked Operand
promotion_at p x = after (integer_at p x) (λ n. Right (promoted_number n))

unfoldable pub negation_at : Place → Operand → Checked Operand
negation_at p x = after (integer_at p x) (λ n. Right (negated_number n))

unfoldable pub flip_at : Place → Operand → Checked Operand
flip_at p x = after (integer_at p x) (λ n. Right (flipped_number n))

unfoldable pub not_at : Place → Operand → Checked Operand
not_at p x = after (condition_at p x) (λ e. Right (truth (expr.Not e)))

-- the operand of `*` is a pointer to an object (6.5.3.2, paragraphs 2 and 4)
unfoldable pub target_at : Place → Operand → Checked Operand
target_at p x = after (pointer_at p x) (λ q. Right (target_object q))

unfoldable pub prefix_of : Place → Operand → PrefixOperator → Checked Operand
prefix_of p x prefix.Promote = promotion_at p x
prefix_of p x prefix.Negate = negation_at p x
prefix_of p x prefix.Flip = flip_at p x
prefix_of p x prefix.Not = not_at p x
prefix_of p x prefix.Address = address p x
prefix_of p x prefix.Target = target_at p x

-- no other operator stands in front of an operand
abbrev pub prefix_by : Place → Option PrefixOperator → Operand → Checked Operand
prefix_by p None x = refuse p Mismatch
prefix_by p (Some op) x = prefix_of p x op

unfoldable pub prefix_rule : Place → Option PrefixOperator → Checked Operand → Checked Operand
prefix_rule p op c = after c (prefix_by p op)
