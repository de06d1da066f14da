-- believed
-- The rules of the profile for the expressions, assignments and calls in a body (C99 6.5, 6.7.8, 6.8.3, 6.8.6.4).
use Rattle.std.specs.Prelude.{ℕ, List, None}
use Rattle.mdr_rich.specs.declared.code.Lval.{Lval}
use Rattle.mdr_rich.specs.declared.code.Step.{Step}
use Rattle.mdr_rich.specs.declared.code.Step.TheVariants as step
use Rattle.mdr_core.specs.declared.place.Place.{Place}
use Rattle.mdr_core.specs.declared.types.Ty.{Ty}
use Rattle.mdr_faults.specs.declared.fault.FaultKind.TheVariants.{Mismatch}
use Rattle.mdr_faults.specs.declared.scope.Scope.{Scope}
use Rattle.mdr_faults.specs.Faults.{Checked, Right, refuse, after, both}
use Rattle.mdr_operand.specs.declared.room.LocalName.{LocalName}
use Rattle.mdr_operand.specs.Signs.{assignment_operator}
use Rattle.mdr_operand.specs.Written.{Written}
use Rattle.mdr_express.specs.Expressions.{typed, call_at}
use Rattle.mdr_call.specs.declared.parts.TypedCall.{TypedCall}
use Rattle.mdr_assign.specs.Assignments.{step_operator, step_rule}
use Rattle.mdr_body.specs.Statements.{Rules}
use Rattle.mdr_typing.specs.Sources.{source_of, source_stored, source_returned, source_assigned, assigning}

-- ---- assignments

unfoldable pub assigned : Scope → (locals : List LocalName) → (at : Place) → (operator : List ℕ) → (left right : Written) → Checked Step
assigned scope locals p op a b = both (typed scope locals a) (source_of scope locals b) (source_assigned scope p (assignment_operator op))

-- ---- statements that are expressions (6.8.3)

-- what a call gives is dropped
abbrev pub calling : TypedCall → Checked Step
calling c = Right (step.Call None c.form)

unfoldable pub stepped : Scope → (locals : List LocalName) → Place → (operator : List ℕ) → Written → Checked Step
stepped scope locals p op a = after (step_rule scope p (step_operator op) (typed scope locals a)) assigning

-- calls, and `++` and `--`
abbrev pub called : Scope → (locals : List LocalName) → Written → Checked Step
called scope locals (Written.Number p n k) = refuse p Mismatch
called scope locals (Written.Null p) = refuse p Mismatch
called scope locals (Written.Name p name) = refuse p Mismatch
called scope locals (Written.Prefix p op a) = stepped scope locals p op a
called scope locals (Written.Post p op a) = stepped scope locals p op a
called scope locals (Written.Cast p base n a) = refuse p Mismatch
called scope locals (Written.Binary p op a b) = refuse p Mismatch
called scope locals (Written.Choice p c a b) = refuse p Mismatch
called scope locals (Written.Subscript p a i) = refuse p Mismatch
called scope locals (Written.Member p a is_arrow at name) = refuse p Mismatch
called scope locals (Written.Call p f args) = after (call_at scope locals p f args) calling
called scope locals (Written.Text p bytes) = refuse p Mismatch
called scope locals (Written.Names p base n) = refuse p Mismatch

-- ---- initialisers and returns

unfoldable pub stored : Scope → (locals : List LocalName) → Place → Lval → Ty → Written → Checked Step
stored scope locals p l t w = after (source_of scope locals w) (source_stored p l t)

unfoldable pub returned : Scope → (locals : List LocalName) → Place → Ty → Written → Checked Step
returned scope locals p t w = after (source_of scope locals w) (source_returned p t)

-- ---- all of them

abbrev pub profile_rules : Rules
profile_rules = record { typed = typed; assigned = assigned; called = called; stored = stored; returned = returned }
