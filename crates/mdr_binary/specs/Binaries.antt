-- believed
-- Operators between two operands (C99 6.5.5 to 6.5.14).
use Rattle.std.specs.Prelude.{Bool, true, false, ◌&&◌, ◌||◌, Option, Some, None}
use Rattle.mdr_core.specs.declared.code.BinOp.{BinOp}
use Rattle.mdr_core.specs.declared.code.BinOp.TheVariants.{Add, Sub, Mul, Div, Rem, Shl, Shr, BitAnd, BitOr, BitXor}
use Rattle.mdr_rich.specs.declared.code.Expr.{Expr}
use Rattle.mdr_rich.specs.declared.code.Expr.TheVariants as expr
use Rattle.mdr_core.specs.declared.code.RelOp.{RelOp}
use Rattle.mdr_core.specs.declared.code.RelOp.TheVariants.{Eq, Ne, Lt, Le, Gt, Ge}
use Rattle.mdr_core.specs.declared.kind.Kind.{Kind}
use Rattle.mdr_core.specs.declared.kind.Kind.TheVariants.{S64}
use Rattle.mdr_core.specs.declared.place.Place.{Place}
use Rattle.mdr_core.specs.Conversions.{common_kind, promoted}
use Rattle.mdr_core.specs.Layout.{chosen}
use Rattle.mdr_operand.specs.declared.operand.Integer.{Integer}
use Rattle.mdr_operand.specs.declared.operand.Operand.{Operand}
use Rattle.mdr_operand.specs.declared.operand.Operand.TheVariants as operand
use Rattle.mdr_operand.specs.declared.operand.Pointer.{Pointer}
use Rattle.mdr_operand.specs.declared.operand.Scalar.{Scalar}
use Rattle.mdr_operand.specs.declared.operand.Scalar.TheVariants as scalar
use Rattle.mdr_operand.specs.declared.operator.BinaryOperator.{BinaryOperator}
use Rattle.mdr_operand.specs.declared.operator.BinaryOperator.TheVariants as binary
use Rattle.mdr_faults.specs.declared.scope.Scope.{Scope}
use Rattle.mdr_faults.specs.declared.fault.FaultKind.TheVariants.{Mismatch}
use Rattle.mdr_faults.specs.Alike.{is_alike, are_alike}
use Rattle.mdr_faults.specs.Faults.{Checked, Right, refuse, after, both}
use Rattle.mdr_operand.specs.Forms.{at_kind, expression_of, integer_at, is_complete, is_null, is_number, needed, null_pointer, number, pointer_at, scalar_at, truth}

-- ---- numbers

-- the operands at their kinds; the value has the left one's
abbrev pub bin_at : BinOp → (left right : Kind) → Integer → Integer → Operand
bin_at op k l m n = number (expr.Bin op k (at_kind k m) (at_kind l n)) k

abbrev pub with_common : BinOp → Kind → Integer → Integer → Operand
with_common op k m n = bin_at op k k m n

-- the operands are brought to their common kind (6.3.1.8)
unfoldable pub arithmetic : BinOp → Integer → Integer → Operand
arithmetic op m n = with_common op (common_kind m.kind n.kind) m n

-- the operands of a shift are promoted each by itself, and its value has the kind of the left one (6.5.7, paragraph 3)
unfoldable pub shifted : BinOp → Integer → Integer → Operand
shifted op m n = bin_at op (promoted m.kind) (promoted n.kind) m n

abbrev pub is_shift : BinOp → Bool
is_shift Add = false
is_shift Sub = false
is_shift Mul = false
is_shift Div = false
is_shift Rem = false
is_shift Shl = true
is_shift Shr = true
is_shift BitAnd = false
is_shift BitOr = false
is_shift BitXor = false

unfoldable pub calculated : BinOp → Integer → Integer → Operand
calculated op m n = chosen (is_shift op) (shifted op m n) (arithmetic op m n)

-- both operands have integer types (6.5.5 to 6.5.7, 6.5.10 to 6.5.12)
unfoldable pub numbers_calculated : BinOp → Place → Operand → Operand → Checked Operand
numbers_calculated op p x y = both (integer_at p x) (integer_at p y) (λ m n. Right (calculated op m n))

-- ---- pointers moved (6.5.6)

unfoldable pub moved : (back : Bool) → Pointer → Integer → Operand
moved back s n = operand.Value (scalar.Pointer (expr.Move back s.value n.value) s.ty)

-- a pointer to a complete type (paragraphs 2 and 3)
unfoldable pub moved_pointer : Scope → Place → (back : Bool) → Pointer → Integer → Checked Operand
moved_pointer scope p back s n = chosen (is_complete scope s.ty) (Right (moved back s n)) (refuse p Mismatch)

unfoldable pub moved_by : Scope → Place → (back : Bool) → (pointer steps : Operand) → Checked Operand
moved_by scope p back x y = both (pointer_at p x) (integer_at p y) (moved_pointer scope p back)

unfoldable pub distance : Pointer → Pointer → Operand
distance s t = number (expr.Diff s.value t.value) S64

-- pointers to one complete type
abbrev pub have_distance : Scope → Pointer → Pointer → Bool
have_distance scope s t = is_alike s.ty t.ty && is_complete scope s.ty

-- the difference of two pointers (paragraphs 3 and 9)
unfoldable pub distance_at : Scope → Place → Pointer → Pointer → Checked Operand
distance_at scope p s t = chosen (have_distance scope s t) (Right (distance s t)) (refuse p Mismatch)

unfoldable pub difference : Scope → Place → Operand → Operand → Checked Operand
difference scope p x y = both (pointer_at p x) (pointer_at p y) (distance_at scope p)

unfoldable pub sum : Scope → Place → Operand → Operand → Checked Operand
sum scope p x y = chosen (is_number y) (moved_by scope p false x y) (moved_by scope p false y x)

unfoldable pub less : Scope → Place → Operand → Operand → Checked Operand
less scope p x y = chosen (is_number y) (moved_by scope p true x y) (difference scope p x y)

-- one operand at least has no integer type: a pointer for `+` and `-` alone
unfoldable pub pointers_calculated : Scope → Place → BinOp → Operand → Operand → Checked Operand
pointers_calculated scope p Add x y = sum scope p x y
pointers_calculated scope p Sub x y = less scope p x y
pointers_calculated scope p op x y = refuse p Mismatch

abbrev pub are_numbers : Operand → Operand → Bool
are_numbers x y = is_number x && is_number y

unfoldable pub calculation_of : Scope → Place → BinOp → Operand → Operand → Checked Operand
calculation_of scope p op x y = chosen (are_numbers x y) (numbers_calculated op p x y) (pointers_calculated scope p op x y)

-- ---- comparisons (6.5.8, 6.5.9)

abbrev pub compared : RelOp → Expr → Expr → Operand
compared op e f = truth (expr.Rel op e f)

abbrev pub compared_at : RelOp → Kind → Integer → Integer → Operand
compared_at op k m n = compared op (at_kind k m) (at_kind k n)

unfoldable pub integers_compared : RelOp → Integer → Integer → Operand
integers_compared op m n = compared_at op (common_kind m.kind n.kind) m n

unfoldable pub numbers_compared : RelOp → Place → Operand → Operand → Checked Operand
numbers_compared op p x y = both (integer_at p x) (integer_at p y) (λ m n. Right (integers_compared op m n))

abbrev pub address_by : Scalar → Option Expr
address_by (scalar.Number e k) = None
address_by (scalar.Pointer e t) = Some e
address_by (scalar.Opaque e) = Some e
address_by (scalar.Handle e ts) = Some e

-- a pointer of any type
unfoldable pub address_at : Place → Operand → Checked Expr
address_at p x = after (scalar_at p x) (λ v. needed p (address_by v))

-- a pointer that is compared with a null pointer constant: that becomes a pointer of its type
unfoldable pub null_or_address : Place → Operand → Checked Expr
null_or_address p x = chosen (is_null x) (Right null_pointer) (address_at p x)

unfoldable pub null_compared : RelOp → Place → Operand → Operand → Checked Operand
null_compared op p x y = both (null_or_address p x) (null_or_address p y) (λ e f. Right (compared op e f))

-- pointers to objects of one type, or both `void *`
abbrev pub have_one_object : Scalar → Scalar → Bool
have_one_object (scalar.Pointer e t) (scalar.Pointer f u) = is_alike t u
have_one_object (scalar.Opaque e) (scalar.Opaque f) = true
have_one_object v w = false

-- pointers to functions of one type
abbrev pub have_one_function : Scalar → Scalar → Bool
have_one_function (scalar.Handle e ts) (scalar.Handle f us) = are_alike ts us
have_one_function v w = false

abbrev pub have_one_type : Scalar → Scalar → Bool
have_one_type v w = have_one_object v w || have_one_function v w

-- one of them is a `void *`, and the other a pointer to an object
abbrev pub have_one_void : Scalar → Scalar → Bool
have_one_void (scalar.Pointer e t) (scalar.Opaque f) = true
have_one_void (scalar.Opaque e) (scalar.Pointer f u) = true
have_one_void v w = false

-- a pointer to an object becomes a `void *` (6.3.2.3, paragraph 1)
abbrev pub void_of : Scalar → Expr
void_of (scalar.Number e k) = e
void_of (scalar.Pointer e t) = expr.ToVoid e
void_of (scalar.Opaque e) = e
void_of (scalar.Handle e ts) = e

unfoldable pub values_compared : RelOp → Scalar → Scalar → Operand
values_compared op v w = compared op (expression_of v) (expression_of w)

unfoldable pub voids_compared : RelOp → Scalar → Scalar → Operand
voids_compared op v w = compared op (void_of v) (void_of w)

unfoldable pub voids_equal : RelOp → Place → Scalar → Scalar → Checked Operand
voids_equal op p v w = chosen (have_one_void v w) (Right (voids_compared op v w)) (refuse p Mismatch)

-- pointers to one type, or a pointer and a `void *`, to which the other is converted (6.5.9, paragraphs 2 and 5)
unfoldable pub pointers_equal : RelOp → Place → Scalar → Scalar → Checked Operand
pointers_equal op p v w = chosen (have_one_type v w) (Right (values_compared op v w)) (voids_equal op p v w)

unfoldable pub equality_of_values : RelOp → Place → Operand → Operand → Checked Operand
equality_of_values op p x y = both (scalar_at p x) (scalar_at p y) (pointers_equal op p)

abbrev pub has_null : Operand → Operand → Bool
has_null x y = is_null x || is_null y

unfoldable pub equality : RelOp → Place → Operand → Operand → Checked Operand
equality op p x y = chosen (has_null x y) (null_compared op p x y) (equality_of_values op p x y)

-- pointers to objects of one type are ordered (6.5.8, paragraph 2)
unfoldable pub pointers_ordered : RelOp → Place → Scalar → Scalar → Checked Operand
pointers_ordered op p v w = chosen (have_one_object v w) (Right (values_compared op v w)) (refuse p Mismatch)

unfoldable pub order_of_values : RelOp → Place → Operand → Operand → Checked Operand
order_of_values op p x y = both (scalar_at p x) (scalar_at p y) (pointers_ordered op p)

-- a null pointer constant is not ordered
unfoldable pub order : RelOp → Place → Operand → Operand → Checked Operand
order op p x y = chosen (has_null x y) (refuse p Mismatch) (order_of_values op p x y)

abbrev pub is_equality : RelOp → Bool
is_equality Eq = true
is_equality Ne = true
is_equality Lt = false
is_equality Le = false
is_equality Gt = false
is_equality Ge = false

unfoldable pub pointers_compared : RelOp → Place → Operand → Operand → Checked Operand
pointers_compared op p x y = chosen (is_equality op) (equality op p x y) (order op p x y)

unfoldable pub comparison_of : RelOp → Place → Operand → Operand → Checked Operand
comparison_of op p x y = chosen (are_numbers x y) (numbers_compared op p x y) (pointers_compared op p x y)

-- ---- `&&` and `||` (6.5.13, 6.5.14)

abbrev pub both_true : Scalar → Scalar → Operand
both_true v w = truth (expr.And (expression_of v) (expression_of w))

abbrev pub either_true : Scalar → Scalar → Operand
either_true v w = truth (expr.Or (expression_of v) (expression_of w))

unfoldable pub conjunction : Place → Operand → Operand → Checked Operand
conjunction p x y = both (scalar_at p x) (scalar_at p y) (λ v w. Right (both_true v w))

unfoldable pub disjunction : Place → Operand → Operand → Checked Operand
disjunction p x y = both (scalar_at p x) (scalar_at p y) (λ v w. Right (either_true v w))

-- ---- all of them

unfoldable pub binary_of : Scope → Place → BinaryOperator → Operand → Operand → Checked Operand
binary_of scope p (binary.Calculate op) x y = calculation_of scope p op x y
binary_of scope p (binary.Compare op) x y = comparison_of op p x y
binary_of scope p binary.And x y = conjunction p x y
binary_of scope p binary.Or x y = disjunction p x y

-- no other operator stands between two operands
unfoldable pub binary_by : Scope → Place → Option BinaryOperator → Operand → Operand → Checked Operand
binary_by scope p None x y = refuse p Mismatch
binary_by scope p (Some op) x y = binary_of scope p op x y

unfoldable pub binary_rule : Scope → Place → Option BinaryOperator → Checked Operand → Checked Operand → Checked Operand
binary_rule scope p op a b = both a b (binary_by scope p op)
