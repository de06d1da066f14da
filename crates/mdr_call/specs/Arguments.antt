-- believed
-- The arguments of a call (C99 6.5.2.2).
use Rattle.std.specs.Prelude.{ℕ, ◌==◌, ◌+◌, List, [], ◌∷◌, length, Option, Some, None, slice_get}
use Rattle.mdr_rich.specs.declared.code.Callee.{Callee}
use Rattle.mdr_rich.specs.declared.code.Expr.{Expr}
use Rattle.mdr_core.specs.declared.place.Place.{Place}
use Rattle.mdr_core.specs.declared.types.Ty.{Ty}
use Rattle.mdr_core.specs.Layout.{chosen}
use Rattle.mdr_faults.specs.declared.fault.FaultKind.TheVariants.{Mismatch, BadArity}
use Rattle.mdr_faults.specs.Faults.{Checked, Right, refuse, next}
use Rattle.mdr_operand.specs.Converting.{converted_at}
use Rattle.mdr_call.specs.declared.parts.Argument.{Argument}
use Rattle.mdr_call.specs.declared.parts.Argument.TheVariants as argument
use Rattle.mdr_call.specs.declared.parts.TypedCall.{TypedCall}

-- an argument's value as one of its parameter's type, as if by assignment (paragraph 7). Texts and types are no values
unfoldable pub argument_as : Place → Ty → Argument → Checked Expr
argument_as p t (argument.Value x) = converted_at p t x
argument_as p t (argument.Text bytes) = refuse p Mismatch
argument_as p t (argument.Type u) = refuse p Mismatch

unfoldable pub argument_for : Place → Option Ty → Argument → Checked Expr
argument_for p None a = refuse p Mismatch
argument_for p (Some t) a = argument_as p t a

-- ts are the types of a function, its result's and then its parameters': so argument i, counted from 1, is one of type i. The arguments from i on
unfoldable pub arguments_from : Place → (ts : List Ty) → (i : ℕ) → List Argument → Checked (List Expr)
arguments_from p ts i [] = Right []
arguments_from p ts i (a ∷ rest) = next (argument_for p (slice_get ts i) a) (arguments_from p ts (i + 1) rest)

abbrev pub arguments_as : Place → (ts : List Ty) → List Argument → Checked (List Expr)
arguments_as p ts args = arguments_from p ts 1 args

-- there are as many arguments as parameters (paragraph 2), which is judged before their types
unfoldable pub converted : Place → (ts : List Ty) → List Argument → Checked (List Expr)
converted p ts args = chosen (length ts == length args + 1) (arguments_as p ts args) (refuse p BadArity)

abbrev pub first_off : List Argument → Option (Argument × List Argument)
first_off [] = None
first_off (a ∷ rest) = Some (a, rest)

-- a call that names no type and no text
abbrev pub plain_call : Callee → List Expr → Ty → TypedCall
plain_call callee args t = record { form = record { callee = callee; args = args; shape = None; format = None }; result = t }
