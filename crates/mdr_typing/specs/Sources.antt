-- believed
-- What stands behind `=` and `return`: a value, or a call whose value goes there (C99 6.5.16, 6.7.8, 6.8.6.4).
use Rattle.std.specs.Prelude.{◌&&◌, not, Bool, true, false, List, Option, Some, None}
use Rattle.mdr_rich.specs.declared.code.CallForm.{CallForm}
use Rattle.mdr_rich.specs.declared.code.Expr.{Expr}
use Rattle.mdr_rich.specs.declared.code.Lval.{Lval}
use Rattle.mdr_rich.specs.declared.code.Step.{Step}
use Rattle.mdr_rich.specs.declared.code.Step.TheVariants as step
use Rattle.mdr_core.specs.declared.place.Place.{Place}
use Rattle.mdr_core.specs.declared.types.Ty.{Ty, out-Ty}
use Rattle.mdr_core.specs.declared.types.Ty.TheOpen.{Ty-F}
use Rattle.mdr_core.specs.Layout.{chosen}
use Rattle.mdr_faults.specs.declared.fault.FaultKind.TheVariants.{Mismatch}
use Rattle.mdr_faults.specs.declared.scope.Scope.{Scope}
use Rattle.mdr_faults.specs.Declarations.{is_void}
use Rattle.mdr_faults.specs.Alike.{is_alike}
use Rattle.mdr_faults.specs.Faults.{Checked, Right, Wrong, refuse, after}
use Rattle.mdr_operand.specs.declared.operand.Operand.{Operand}
use Rattle.mdr_operand.specs.declared.operand.Operand.TheVariants as operand
use Rattle.mdr_operand.specs.declared.operand.Scalar.TheVariants as scalar
use Rattle.mdr_operand.specs.declared.operator.AssignmentOperator.{AssignmentOperator}
use Rattle.mdr_operand.specs.declared.operator.AssignmentOperator.TheVariants.{Plain, Compound}
use Rattle.mdr_operand.specs.declared.room.LocalName.{LocalName}
use Rattle.mdr_operand.specs.Converting.{converted_at}
use Rattle.mdr_operand.specs.Forms.{is_active_operand}
use Rattle.mdr_operand.specs.Written.{Written}
use Rattle.mdr_express.specs.Expressions.{typed, call_at}
use Rattle.mdr_call.specs.declared.parts.TypedCall.{TypedCall}
use Rattle.mdr_assign.specs.declared.assignment.Assignment.{Assignment}
use Rattle.mdr_call.specs.Calls.{call_value}
use Rattle.mdr_assign.specs.Assignments.{assignment_rule, destination_at}
use Rattle.mdr_typing.specs.declared.source.Source.{Source}
use Rattle.mdr_typing.specs.declared.source.Source.TheVariants as source
use Rattle.mdr_typing.specs.Becoming.{becomes}

-- ---- what stands there

abbrev pub value_source : Operand → Checked Source
value_source x = Right (source.Value x)

-- a call that gives nothing has no value (6.3.2.2)
unfoldable pub call_source : Place → TypedCall → Checked Source
call_source p c = chosen (is_void c.result) (refuse p Mismatch) (Right (source.Call c))

abbrev pub is_pointer_value : Operand → Bool
is_pointer_value (operand.Value (scalar.Pointer e t)) = true
is_pointer_value (operand.Value (scalar.Opaque e)) = true
is_pointer_value x = false

-- a pointer of the type
abbrev pub is_pointer_of : Ty-F Ty → Operand → Bool
is_pointer_of (Ty-F.Ptr t) (operand.Value (scalar.Pointer e u)) = is_alike t u
is_pointer_of Ty-F.VoidPtr (operand.Value (scalar.Opaque e)) = true
is_pointer_of t x = false

abbrev pub pointer_source : Checked Source → Operand → Checked Source
pointer_source (Right (source.Call c)) x = chosen (is_pointer_of (out-Ty c.result) x) (Right (source.Call c)) (value_source x)
pointer_source (Right (source.Value y)) x = value_source x
pointer_source (Wrong f) x = value_source x

-- what a cast gives, of what stands behind it: a cast of a pointer to its own type does nothing, so that a call is by itself in it too (6.5.4)
unfoldable pub cast_source : Checked Source → Operand → Checked Source
cast_source c x = chosen (is_pointer_value x) (pointer_source c x) (value_source x)

-- a call by itself, or any other expression
abbrev pub source_of : Scope → (locals : List LocalName) → Written → Checked Source
source_of scope locals (Written.Call p f args) = after (call_at scope locals p f args) (call_source p)
source_of scope locals (Written.Cast p base n a) = after (typed scope locals (Written.Cast p base n a)) (cast_source (source_of scope locals a))
source_of scope locals w = after (typed scope locals w) value_source

-- a call whose value becomes one of the type as if by assignment (6.5.16.1)
unfoldable pub call_as : Place → Ty → TypedCall → Checked CallForm
call_as p t c = chosen (becomes c.result t) (Right c.form) (refuse p Mismatch)

-- ---- given to an object (6.5.16.1; 6.7.8, paragraph 11)

abbrev pub value_to : Lval → Expr → Checked Step
value_to l e = Right (step.Assign l e)

abbrev pub call_to : Lval → CallForm → Checked Step
call_to l f = Right (step.Call (Some l) f)

unfoldable pub source_stored : Place → Lval → Ty → Source → Checked Step
source_stored p l t (source.Value x) = after (converted_at p t x) (value_to l)
source_stored p l t (source.Call c) = after (call_as p t c) (call_to l)

-- ---- given to the caller (6.8.6.4, paragraph 3)

abbrev pub value_back : Expr → Checked Step
value_back e = Right (step.Return (Some e))

abbrev pub call_back : CallForm → Checked Step
call_back f = Right (step.ReturnCall f)

unfoldable pub source_returned : Place → Ty → Source → Checked Step
source_returned p t (source.Value x) = after (converted_at p t x) value_back
source_returned p t (source.Call c) = after (call_as p t c) call_back

-- ---- assignments (6.5.16)

abbrev pub assigning : Assignment → Checked Step
assigning a = Right (step.Assign a.left a.right)

abbrev pub is_plain : Option AssignmentOperator → Bool
is_plain None = false
is_plain (Some Plain) = true
is_plain (Some (Compound op)) = false

unfoldable pub value_assigned : Scope → Place → Option AssignmentOperator → Operand → Operand → Checked Step
value_assigned scope p op x y = after (assignment_rule scope p op (Right x) (Right y)) assigning

-- that the left side is no lvalue is told before anything of types
unfoldable pub call_assigned : Place → Operand → TypedCall → Checked Step
call_assigned p x c = after (destination_at p x) (λ d. source_stored p d.object d.ty (source.Call c))

-- a call by itself is the right side of `=` where nothing of the left side has to be done behind it; else it is a part
unfoldable pub source_assigned : Scope → Place → Option AssignmentOperator → Operand → Source → Checked Step
source_assigned scope p op x (source.Value y) = value_assigned scope p op x y
source_assigned scope p op x (source.Call c) = chosen (is_plain op && not (is_active_operand x)) (call_assigned p x c) (after (call_value p c) (value_assigned scope p op x))
