-- believed
-- Calls of functions (C99 6.5.2.2).
use Rattle.std.specs.Prelude.{Bool, true, false, List, Option, Some, None, slice_get}
use Rattle.mdr_rich.specs.declared.code.Callee.TheVariants as callee
use Rattle.mdr_core.specs.declared.place.Place.{Place}
use Rattle.mdr_core.specs.declared.types.Ty.{Ty}
use Rattle.mdr_core.specs.declared.types.Ty.TheVariants as type
use Rattle.mdr_core.specs.Layout.{chosen}
use Rattle.mdr_faults.specs.Faults.{Checked, Right, after}
use Rattle.mdr_operand.specs.declared.operand.Operand.{Operand}
use Rattle.mdr_operand.specs.declared.operand.Operand.TheVariants as operand
use Rattle.mdr_operand.specs.declared.operand.Scalar.{Scalar}
use Rattle.mdr_operand.specs.declared.operand.Scalar.TheVariants as scalar
use Rattle.mdr_operand.specs.Forms.{needed, value_of}
use Rattle.mdr_call.specs.declared.parts.Argument.{Argument}
use Rattle.mdr_call.specs.declared.parts.Callable.{Callable}
use Rattle.mdr_call.specs.declared.parts.Handle.{Handle}
use Rattle.mdr_call.specs.declared.parts.TypedCall.{TypedCall}
use Rattle.mdr_call.specs.Arguments.{converted, plain_call}

abbrev pub type_or_void : Option Ty → Ty
type_or_void None = type.Void
type_or_void (Some t) = t

-- the types of a function are its result's and then its parameters'
abbrev pub result_of : List Ty → Ty
result_of ts = type_or_void (slice_get ts 0)

abbrev pub is_function : Operand → Bool
is_function (operand.Value v) = false
is_function (operand.Zero k) = false
is_function operand.Null = false
is_function (operand.Object l t) = false
is_function (operand.Array l t n) = false
is_function (operand.Function f ts) = true

abbrev pub function_of : Operand → Option Callable
function_of (operand.Value v) = None
function_of (operand.Zero k) = None
function_of operand.Null = None
function_of (operand.Object l t) = None
function_of (operand.Array l t n) = None
function_of (operand.Function f ts) = Some (record { callee = callee.Direct f; types = ts })

abbrev pub handle_of : Scalar → Option Handle
handle_of (scalar.Number e k) = None
handle_of (scalar.Pointer e t) = None
handle_of (scalar.Opaque e) = None
handle_of (scalar.Handle e ts) = Some (record { value = e; types = ts })

abbrev pub handle_by : Option Scalar → Option Handle
handle_by None = None
handle_by (Some v) = handle_of v

abbrev pub through : Option Handle → Option Callable
through None = None
through (Some h) = Some (record { callee = callee.Through h.value; types = h.types })

-- a function by its name is called directly; else the callee is a pointer to a function (paragraph 1)
unfoldable pub callable : Operand → Option Callable
callable x = chosen (is_function x) (function_of x) (through (handle_by (value_of x)))

unfoldable pub call_with : Place → List Argument → Callable → Checked TypedCall
call_with p args c = after (converted p c.types args) (λ es. Right (plain_call c.callee es (result_of c.types)))

unfoldable pub function_call : Place → List Argument → Operand → Checked TypedCall
function_call p args x = after (needed p (callable x)) (call_with p args)
