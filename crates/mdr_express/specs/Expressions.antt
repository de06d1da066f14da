-- believed
-- What each expression comes to, in a scope and among the locals so far (C99 6.5).
use Rattle.std.specs.Prelude.{ℕ, Bool, true, false, List, [], Option, Some, None}
use Rattle.mdr_core.specs.declared.place.Place.{Place}
use Rattle.mdr_faults.specs.declared.fault.FaultKind.TheVariants.{Mismatch}
use Rattle.mdr_operand.specs.declared.operand.Operand.{Operand}
use Rattle.mdr_operand.specs.declared.operand.Operand.TheVariants as operand
use Rattle.mdr_operand.specs.declared.operator.PrefixOperator.{PrefixOperator}
use Rattle.mdr_operand.specs.declared.room.LocalName.{LocalName}
use Rattle.mdr_faults.specs.declared.scope.Scope.{Scope}
use Rattle.mdr_assign.specs.Assignments.{bump_rule, step_operator}
use Rattle.mdr_binary.specs.Binaries.{binary_rule}
use Rattle.mdr_binary.specs.Choices.{choice_rule}
use Rattle.mdr_call.specs.declared.parts.Argument.{Argument}
use Rattle.mdr_call.specs.declared.parts.Target.{Target}
use Rattle.mdr_call.specs.declared.parts.TypedCall.{TypedCall}
use Rattle.mdr_call.specs.Calls.{argument_by, call_rule, call_value, target_by}
use Rattle.mdr_operand.specs.Converting.{cast_rule}
use Rattle.mdr_faults.specs.Faults.{Checked, Right, refuse, next, after}
use Rattle.mdr_operand.specs.Forms.{literal, prefix_rule}
use Rattle.mdr_postfix.specs.Members.{member_rule}
use Rattle.mdr_postfix.specs.Names.{name_rule}
use Rattle.mdr_postfix.specs.Subscripts.{subscript_rule}
use Rattle.mdr_operand.specs.Signs.{binary_operator, prefix_operator}
use Rattle.mdr_operand.specs.Written.{Written, Writtens}

-- two operands with their operator's sign between them
unfoldable pub signed_rule : Scope → Place → (sign : List ℕ) → Checked Operand → Checked Operand → Checked Operand
signed_rule scope p sign a b = binary_rule scope p (binary_operator sign) a b

abbrev pub fronted_by : Scope → Place → Option Bool → Option PrefixOperator → Checked Operand → Checked Operand
fronted_by scope p None op c = prefix_rule p op c
fronted_by scope p (Some up) op c = bump_rule scope p true (Some up) c

-- an operand with a sign in front of it
unfoldable pub fronted_rule : Scope → Place → (sign : List ℕ) → Checked Operand → Checked Operand
fronted_rule scope p sign c = fronted_by scope p (step_operator sign) (prefix_operator sign) c

abbrev mutual
  -- texts and types stand as arguments and right sides alone
  pub typed : Scope → (locals : List LocalName) → Written → Checked Operand
  typed scope locals (Written.Number p n k) = Right (literal n k)
  typed scope locals (Written.Null p) = Right operand.Null
  typed scope locals (Written.Name p name) = name_rule scope locals p name
  typed scope locals (Written.Prefix p op a) = fronted_rule scope p op (typed scope locals a)
  typed scope locals (Written.Post p op a) = bump_rule scope p false (step_operator op) (typed scope locals a)
  typed scope locals (Written.Cast p base n a) = cast_rule scope p base n (typed scope locals a)
  typed scope locals (Written.Binary p op a b) = signed_rule scope p op (typed scope locals a) (typed scope locals b)
  typed scope locals (Written.Choice p c a b) = choice_rule p (typed scope locals c) (typed scope locals a) (typed scope locals b)
  typed scope locals (Written.Subscript p a i) = subscript_rule scope p (typed scope locals a) (typed scope locals i)
  typed scope locals (Written.Member p a is_arrow at name) = member_rule scope p at is_arrow name (typed scope locals a)
  typed scope locals (Written.Call p f args) = after (call_rule scope p (target_by f (typed scope locals f) (behind_sign scope locals f)) (arguments_of scope locals args)) (call_value p)
  typed scope locals (Written.Text p bytes) = refuse p Mismatch
  typed scope locals (Written.Names p base n) = refuse p Mismatch

  -- what stands behind the sign in front of a form; of no other form it is asked
  pub behind_sign : Scope → (locals : List LocalName) → Written → Checked Operand
  behind_sign scope locals (Written.Prefix p op a) = typed scope locals a
  behind_sign scope locals w = Right operand.Null

  pub arguments_of : Scope → (locals : List LocalName) → Writtens → Checked (List Argument)
  arguments_of scope locals Writtens.End = Right []
  arguments_of scope locals (Writtens.Then w ws) = next (argument_by scope w (typed scope locals w)) (arguments_of scope locals ws)

-- ---- calls (6.5.2.2)

abbrev pub target_of : Scope → (locals : List LocalName) → Written → Checked Target
target_of scope locals w = target_by w (typed scope locals w) (behind_sign scope locals w)

unfoldable pub call_at : Scope → (locals : List LocalName) → Place → (callee : Written) → Writtens → Checked TypedCall
call_at scope locals p f args = call_rule scope p (target_of scope locals f) (arguments_of scope locals args)
