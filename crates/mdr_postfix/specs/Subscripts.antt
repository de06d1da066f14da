-- believed
-- Subscripts (C99 6.5.2.1).
use Rattle.std.specs.Prelude.{Bool, true, false, Option, Some, None}
use Rattle.mdr_rich.specs.declared.code.Expr.TheVariants as expr
use Rattle.mdr_rich.specs.declared.code.Lval.TheVariants as lval
use Rattle.mdr_core.specs.declared.place.Place.{Place}
use Rattle.mdr_core.specs.Layout.{chosen}
use Rattle.mdr_faults.specs.declared.fault.FaultKind.TheVariants.{Mismatch}
use Rattle.mdr_faults.specs.declared.scope.Scope.{Scope}
use Rattle.mdr_faults.specs.Faults.{Checked, Right, refuse, after, both}
use Rattle.mdr_operand.specs.declared.operand.Integer.{Integer}
use Rattle.mdr_operand.specs.declared.operand.Operand.{Operand}
use Rattle.mdr_operand.specs.declared.operand.Operand.TheVariants as operand
use Rattle.mdr_operand.specs.declared.operand.Pointer.{Pointer}
use Rattle.mdr_operand.specs.Forms.{integer_at, is_complete, is_number, needed, pointer_at}
use Rattle.mdr_postfix.specs.declared.located.Located.{Located}

abbrev pub is_array : Operand → Bool
is_array (operand.Value v) = false
is_array (operand.Zero k) = false
is_array operand.Null = false
is_array (operand.Object l t) = false
is_array (operand.Array l t n) = true
is_array (operand.Function f ts) = false

-- an array, with its elements' type
abbrev pub array_of : Operand → Option Located
array_of (operand.Value v) = None
array_of (operand.Zero k) = None
array_of operand.Null = None
array_of (operand.Object l t) = None
array_of (operand.Array l t n) = Some (record { lval = l; ty = t })
array_of (operand.Function f ts) = None

abbrev pub element_in : Integer → Located → Operand
element_in i x = operand.Object (lval.Index x.lval i.value) x.ty

-- an element of an array by its name or member is one of that array
unfoldable pub element_of_array : Place → Integer → Operand → Checked Operand
element_of_array p i x = after (needed p (array_of x)) (λ x. Right (element_in i x))

abbrev pub element_behind : Integer → Pointer → Operand
element_behind i x = operand.Object (lval.Deref (expr.Move false x.value i.value)) x.ty

-- an element by a pointer: `p[i]` is `*(p + i)` (paragraph 2), and pointers to complete types alone are moved (6.5.6, paragraph 2)
unfoldable pub element_at : Scope → Place → Integer → Pointer → Checked Operand
element_at scope p i x = chosen (is_complete scope x.ty) (Right (element_behind i x)) (refuse p Mismatch)

unfoldable pub element_of_pointer : Scope → Place → Integer → Operand → Checked Operand
element_of_pointer scope p i x = after (pointer_at p x) (element_at scope p i)

unfoldable pub element_by : Scope → Place → Operand → Integer → Checked Operand
element_by scope p x i = chosen (is_array x) (element_of_array p i x) (element_of_pointer scope p i x)

unfoldable pub element : Scope → Place → (array index : Operand) → Checked Operand
element scope p x y = after (integer_at p y) (element_by scope p x)

-- one side is an integer, and `i[p]` is `p[i]`
unfoldable pub subscript_of : Scope → Place → Operand → Operand → Checked Operand
subscript_of scope p x y = chosen (is_number y) (element scope p x y) (element scope p y x)

unfoldable pub subscript_rule : Scope → Place → Checked Operand → Checked Operand → Checked Operand
subscript_rule scope p a b = both a b (subscript_of scope p)
