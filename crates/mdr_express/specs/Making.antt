-- protocol
-- What is made of a form and its parts (C99 6.5).
use Rattle.std.specs.Prelude.{◌≡◌, IfOk, List, Result}
use Rattle.mdr_core.specs.declared.place.Place.{Place}
use Rattle.mdr_faults.specs.declared.fault.Fault.{Fault}
use Rattle.mdr_faults.specs.declared.scope.Scope.{Scope}
use Rattle.mdr_faults.specs.Faults.{Checked, told, after}
use Rattle.mdr_operand.specs.declared.operand.Operand.{Operand}
use Rattle.mdr_call.specs.declared.parts.Argument.{Argument}
use Rattle.mdr_call.specs.declared.parts.Target.{Target}
use Rattle.mdr_call.specs.Calls.{call_rule, call_value}

-- where there was memory for it, it is what the rules say of the part (6.5)
abbrev pub IsMade : {A E : Type 0} → (made : Result (Result A Fault) E) → Checked A → Type 0
IsMade made c = IfOk made (λ r. r ≡ told c)

-- a call as a part of an expression: what it gives (6.5.2.2, paragraph 5)
abbrev pub call_as_value : Scope → Place → Checked Target → Checked (List Argument) → Checked Operand
call_as_value scope p t args = after (call_rule scope p t args) (call_value p)
