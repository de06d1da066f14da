-- believed
-- Assignments (C99 6.5.16), and `++` and `--` (6.5.2.4, 6.5.3.1).
use Rattle.std.specs.Prelude.{ℕ, ◌&&◌, Bool, true, false, List, Option, Some, None, codes, pos}
use Rattle.std.specs.Str.{bytes_eq}
use Rattle.mdr_core.specs.declared.code.BinOp.{BinOp}
use Rattle.mdr_core.specs.declared.code.BinOp.TheVariants.{Add, Sub}
use Rattle.mdr_rich.specs.declared.code.Expr.{Expr}
use Rattle.mdr_rich.specs.declared.code.Expr.TheVariants as expr
use Rattle.mdr_rich.specs.declared.code.Lval.{Lval}
use Rattle.mdr_core.specs.declared.kind.Kind.TheVariants.{S32}
use Rattle.mdr_core.specs.declared.place.Place.{Place}
use Rattle.mdr_core.specs.declared.types.Ty.{Ty, out-Ty}
use Rattle.mdr_core.specs.declared.types.Ty.TheOpen.{Ty-F}
use Rattle.mdr_core.specs.declared.value.Value.TheVariants as value
use Rattle.mdr_core.specs.Layout.{chosen}
use Rattle.mdr_core.specs.Types.{is_scalar}
use Rattle.mdr_assign.specs.declared.assignment.Assignment.{Assignment}
use Rattle.mdr_assign.specs.declared.assignment.Destination.{Destination}
use Rattle.mdr_binary.specs.Binaries.{calculation_of}
use Rattle.mdr_faults.specs.declared.fault.FaultKind.TheVariants.{Mismatch, NotAnLvalue}
use Rattle.mdr_faults.specs.declared.scope.Scope.{Scope}
use Rattle.mdr_faults.specs.Faults.{Checked, Right, refuse, after, both}
use Rattle.mdr_operand.specs.declared.operand.Operand.{Operand}
use Rattle.mdr_operand.specs.declared.operand.Operand.TheVariants as operand
use Rattle.mdr_operand.specs.declared.operator.AssignmentOperator.{AssignmentOperator}
use Rattle.mdr_operand.specs.declared.operator.AssignmentOperator.TheVariants.{Plain, Compound}
use Rattle.mdr_operand.specs.Converting.{converted_at}
use Rattle.mdr_operand.specs.Forms.{is_active_operand, is_complete, number, value_at}

-- ---- the left side

-- structs and locks aren't assigned as a whole
unfoldable pub scalar_object : Place → Lval → Ty → Checked Destination
scalar_object p l t = chosen (is_scalar t) (Right (record { object = l; ty = t })) (refuse p Mismatch)

-- the left side is a modifiable lvalue (6.5.16, paragraph 2), and an array is none (6.3.2.1, paragraph 1)
unfoldable pub destination_at : Place → Operand → Checked Destination
destination_at p (operand.Value v) = refuse p NotAnLvalue
destination_at p (operand.Zero k) = refuse p NotAnLvalue
destination_at p operand.Null = refuse p NotAnLvalue
destination_at p (operand.Object l t) = scalar_object p l t
destination_at p (operand.Array l t n) = refuse p Mismatch
destination_at p (operand.Function f ts) = refuse p NotAnLvalue

-- ---- assignments

abbrev pub given : Lval → Expr → Checked Assignment
given l e = Right (record { left = l; right = e })

-- the right operand becomes a value of the left one's type (6.5.16.1, paragraph 2)
unfoldable pub plain_at : Place → Destination → Operand → Checked Assignment
plain_at p d y = after (converted_at p d.ty y) (given d.object)

-- what the left side holds before
abbrev pub old_value : Destination → Operand
old_value d = operand.Object d.object d.ty

-- `a op= b` is `a = a op b` (6.5.16.2, paragraph 3)
unfoldable pub compound_at : Scope → Place → BinOp → Destination → Operand → Checked Assignment
compound_at scope p op d y = after (calculation_of scope p op (old_value d) y) (plain_at p d)

-- no other operator is one of assignments
unfoldable pub assigned_by : Scope → Place → Option AssignmentOperator → Destination → Operand → Checked Assignment
assigned_by scope p None d y = refuse p Mismatch
assigned_by scope p (Some Plain) d y = plain_at p d y
assigned_by scope p (Some (Compound op)) d y = compound_at scope p op d y

abbrev pub is_compound : Option AssignmentOperator → Bool
is_compound None = false
is_compound (Some Plain) = false
is_compound (Some (Compound op)) = true

-- in what a compound assignment changes no call, `++`, `--` or `?:` stands: it is evaluated once (6.5.16.2, paragraph 3)
unfoldable pub left_at : Place → Option AssignmentOperator → Operand → Checked Destination
left_at p op x = chosen (is_compound op && is_active_operand x) (refuse p NotAnLvalue) (destination_at p x)

-- that the left side is no lvalue is told before anything of types
unfoldable pub assigned_at : Scope → Place → Option AssignmentOperator → Operand → Operand → Checked Assignment
assigned_at scope p op x y = after (left_at p op x) (λ d. assigned_by scope p op d y)

unfoldable pub assignment_rule : Scope → Place → Option AssignmentOperator → (left right : Checked Operand) → Checked Assignment
assignment_rule scope p op a b = both a b (assigned_at scope p op)

-- ---- `++` and `--`

-- whether upwards
unfoldable pub step_operator : List ℕ → Option Bool
step_operator sign =
    chosen (bytes_eq sign (codes "++")) (Some true)
    (chosen (bytes_eq sign (codes "--")) (Some false) None)

-- integers and pointers to complete types are stepped (6.5.2.4, paragraph 1)
abbrev pub is_stepped_by : Scope → Ty-F Ty → Bool
is_stepped_by scope (Ty-F.Int k) = true
is_stepped_by scope Ty-F.Lock = false
is_stepped_by scope (Ty-F.Struct s) = false
is_stepped_by scope (Ty-F.Ptr t) = is_complete scope t
is_stepped_by scope Ty-F.VoidPtr = false
is_stepped_by scope (Ty-F.Fun ts) = false
is_stepped_by scope Ty-F.Void = false

unfoldable pub stepped_object : Scope → Place → Lval → Ty → Checked Destination
stepped_object scope p l t = chosen (is_stepped_by scope (out-Ty t)) (Right (record { object = l; ty = t })) (refuse p Mismatch)

abbrev pub stepped_operand : Scope → Place → Operand → Checked Destination
stepped_operand scope p (operand.Value v) = refuse p Mismatch
stepped_operand scope p (operand.Zero k) = refuse p Mismatch
stepped_operand scope p operand.Null = refuse p Mismatch
stepped_operand scope p (operand.Object l t) = stepped_object scope p l t
stepped_operand scope p (operand.Array l t n) = refuse p Mismatch
stepped_operand scope p (operand.Function f ts) = refuse p Mismatch

-- that a call, `++`, `--` or `?:` stands in what is stepped is told before anything of types
unfoldable pub stepped_place : Scope → Place → Operand → Checked Destination
stepped_place scope p x = chosen (is_active_operand x) (refuse p NotAnLvalue) (stepped_operand scope p x)

abbrev pub one : Operand
one = number (expr.Lit (value.Int S32 (pos 1))) S32

-- `++a` is `a += 1` (6.5.3.1, paragraph 2), and so is `a++` whose value nobody takes (6.5.2.4, paragraph 2)
unfoldable pub stepped_by : Scope → Place → Option Bool → Destination → Checked Assignment
stepped_by scope p None d = refuse p Mismatch
stepped_by scope p (Some up) d = compound_at scope p (chosen up Add Sub) d one

unfoldable pub stepped_at : Scope → Place → Option Bool → Operand → Checked Assignment
stepped_at scope p op x = after (stepped_place scope p x) (stepped_by scope p op)

unfoldable pub step_rule : Scope → Place → Option Bool → Checked Operand → Checked Assignment
step_rule scope p op c = after c (stepped_at scope p op)

-- as values: the new one where the operator stands first, else the old one (6.5.3.1, paragraph 2; 6.5.2.4, paragraph 2)
unfoldable pub bump_by : Place → (first : Bool) → Option Bool → Destination → Checked Operand
bump_by p first None d = refuse p Mismatch
bump_by p first (Some up) d = value_at p d.ty (expr.Bump d.ty up first d.object)

unfoldable pub bump_at : Scope → Place → (first : Bool) → Option Bool → Operand → Checked Operand
bump_at scope p first op x = after (stepped_place scope p x) (bump_by p first op)

unfoldable pub bump_rule : Scope → Place → (first : Bool) → Option Bool → Checked Operand → Checked Operand
bump_rule scope p first op c = after c (bump_at scope p first op)
