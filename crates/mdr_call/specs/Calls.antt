-- believed
-- Calls: of functions by name or through a pointer, and of services (C99 6.5.2.2).
use Rattle.std.specs.Prelude.{Bool, true, false, List, Option, Some, None}
use Rattle.mdr_rich.specs.declared.code.Callee.{Callee}
use Rattle.mdr_rich.specs.declared.code.Callee.TheVariants as callee
use Rattle.mdr_rich.specs.declared.code.CallForm.{CallForm}
use Rattle.mdr_rich.specs.declared.code.Expr.{Expr}
use Rattle.mdr_rich.specs.declared.code.Expr.TheVariants as expr
use Rattle.mdr_core.specs.declared.place.Place.{Place}
use Rattle.mdr_core.specs.declared.types.Ty.{Ty}
use Rattle.mdr_core.specs.Layout.{chosen}
use Rattle.mdr_faults.specs.declared.scope.Scope.{Scope}
use Rattle.mdr_faults.specs.Declarations.{type_named}
use Rattle.mdr_faults.specs.Faults.{Checked, Right, after, both}
use Rattle.mdr_operand.specs.declared.operand.Operand.{Operand}
use Rattle.mdr_operand.specs.declared.operand.Operand.TheVariants as operand
use Rattle.mdr_operand.specs.declared.operand.Scalar.{Scalar}
use Rattle.mdr_operand.specs.declared.operand.Scalar.TheVariants as scalar
use Rattle.mdr_operand.specs.declared.operator.PrefixOperator.{PrefixOperator}
use Rattle.mdr_operand.specs.declared.operator.PrefixOperator.TheVariants as prefix
use Rattle.mdr_operand.specs.Forms.{prefix_rule, scalar_at, value_at, value_of}
use Rattle.mdr_operand.specs.Signs.{prefix_operator}
use Rattle.mdr_operand.specs.Written.{Written}
use Rattle.mdr_call.specs.declared.parts.Argument.{Argument}
use Rattle.mdr_call.specs.declared.parts.Argument.TheVariants as argument
use Rattle.mdr_call.specs.declared.parts.Target.{Target}
use Rattle.mdr_call.specs.declared.parts.Target.TheVariants as target
use Rattle.mdr_call.specs.declared.parts.TypedCall.{TypedCall}
use Rattle.mdr_call.specs.declared.service.Service.{Service}
use Rattle.mdr_call.specs.Functions.{function_call}
use Rattle.mdr_call.specs.Services.{service_call, service_named}

-- ---- what is called

abbrev pub is_handle_value : Option Scalar → Bool
is_handle_value None = false
is_handle_value (Some (scalar.Number e k)) = false
is_handle_value (Some (scalar.Pointer e t)) = false
is_handle_value (Some (scalar.Opaque e)) = false
is_handle_value (Some (scalar.Handle e ts)) = true

-- a function, or a pointer to one
unfoldable pub is_handle : Operand → Bool
is_handle x = is_handle_value (value_of x)

-- an operand by its value: a function's name is a pointer to it
unfoldable pub valued : Place → Operand → Checked Operand
valued p x = after (scalar_at p x) (λ v. Right (operand.Value v))

-- `*f` is the function that f points to, which is a pointer to it again (6.3.2.1, paragraph 4). It stands as a callee alone
unfoldable pub starred_callee : Place → Operand → Checked Operand
starred_callee p x = chosen (is_handle x) (valued p x) (prefix_rule p (Some prefix.Target) (Right x))

abbrev pub is_star : Option PrefixOperator → Bool
is_star None = false
is_star (Some prefix.Promote) = false
is_star (Some prefix.Negate) = false
is_star (Some prefix.Flip) = false
is_star (Some prefix.Not) = false
is_star (Some prefix.Address) = false
is_star (Some prefix.Target) = true

-- a form with an operator in front, as a callee: what it comes to as an expression, and what stands behind the operator
unfoldable pub callee_behind : Place → Option PrefixOperator → (whole behind : Checked Operand) → Checked Operand
callee_behind p op whole behind = chosen (is_star op) (after behind (starred_callee p)) whole

abbrev pub as_target : Checked Operand → Checked Target
as_target c = after c (λ x. Right (target.Callee x))

abbrev pub named_target : Option Service → Checked Operand → Checked Target
named_target (Some s) c = Right (target.Service s)
named_target None c = as_target c

abbrev pub target_by : Written → (whole behind : Checked Operand) → Checked Target
target_by (Written.Name p name) whole behind = named_target (service_named name) whole
target_by (Written.Prefix p op a) whole behind = as_target (callee_behind p (prefix_operator op) whole behind)
target_by w whole behind = as_target whole

-- ---- arguments

-- an argument, of which c is what it comes to as an expression
abbrev pub argument_by : Scope → Written → Checked Operand → Checked Argument
argument_by scope (Written.Text p bytes) c = Right (argument.Text bytes)
argument_by scope (Written.Names p base n) c = after (type_named scope base n) (λ t. Right (argument.Type t))
argument_by scope w c = after c (λ x. Right (argument.Value x))

-- ---- calls

abbrev pub call_by : Scope → Place → List Argument → Target → Checked TypedCall
call_by scope p args (target.Service s) = service_call scope p args s
call_by scope p args (target.Callee x) = function_call p args x

-- a call of what was found, with these arguments
unfoldable pub call_rule : Scope → Place → Checked Target → Checked (List Argument) → Checked TypedCall
call_rule scope p t args = both t args (λ t args. call_by scope p args t)

-- ---- calls as values

abbrev pub called_by : Ty → CallForm → Callee → Expr
called_by t f (callee.Direct n) = expr.CallDirect t n f.args
called_by t f (callee.Through e) = expr.CallThrough t e f.args
called_by t f (callee.Service n) = expr.CallService t n f.args f.shape f.format

-- what a call gives; one that gives nothing has no value (6.3.2.2)
unfoldable pub call_value : Place → TypedCall → Checked Operand
call_value p c = value_at p c.result (called_by c.result c.form c.form.callee)
