-- What the profile's rules of assignments, calls, initialisers and returns give are plain steps.
use Rattle.std.proofs.Common.{ℕ, Bool, true, false, not, ◌&&◌, List, Option, Some, None, refl, ◌∙◌, subst}
use Rattle.mdr_rich.specs.declared.code.CallForm.{CallForm}
use Rattle.mdr_rich.specs.declared.code.Expr.{Expr}
use Rattle.mdr_rich.specs.declared.code.Lval.{Lval}
use Rattle.mdr_rich.specs.declared.code.Step.{Step}
use Rattle.mdr_rich.specs.declared.code.Step.TheVariants as step
use Rattle.mdr_core.specs.declared.place.Place.{Place}
use Rattle.mdr_core.specs.declared.types.Ty.{Ty}
use Rattle.mdr_core.specs.Layout.{chosen}
use Rattle.mdr_rich.specs.Code.{Code, Goal}
use Rattle.mdr_rich.specs.Folds.{call_of, goal_of, lvalue_of, term_of}
use Rattle.mdr_rich.proofs.Coded.{code_is, assign_is, call_is, return_is, return_call_is}
use Rattle.mdr_faults.specs.declared.scope.Scope.{Scope}
use Rattle.mdr_faults.specs.Faults.{Checked, Right, after}
use Rattle.mdr_operand.specs.declared.operand.Operand.{Operand}
use Rattle.mdr_operand.specs.declared.operator.AssignmentOperator.{AssignmentOperator}
use Rattle.mdr_operand.specs.declared.room.LocalName.{LocalName}
use Rattle.mdr_operand.specs.Converting.{converted_at}
use Rattle.mdr_operand.specs.Signs.{assignment_operator}
use Rattle.mdr_operand.specs.Written.{Written}
use Rattle.mdr_operand.specs.Forms.{is_active_operand}
use Rattle.mdr_express.specs.Expressions.{typed, call_at}
use Rattle.mdr_call.specs.declared.parts.TypedCall.{TypedCall}
use Rattle.mdr_call.specs.Calls.{call_value}
use Rattle.mdr_assign.specs.declared.assignment.Assignment.{Assignment}
use Rattle.mdr_assign.specs.Assignments.{assignment_rule, destination_at, step_operator, step_rule}
use Rattle.mdr_body.specs.Statements.{stmt}
use Rattle.mdr_typing.specs.declared.source.Source.{Source}
use Rattle.mdr_typing.specs.declared.source.Source.TheVariants as source
use Rattle.mdr_typing.specs.Profile.{assigned, calling, stepped, called, stored, returned, profile_rules}
use Rattle.mdr_typing.specs.Sources.{source_of, call_as, value_to, call_to, source_stored, value_back, call_back, source_returned, assigning, is_plain, value_assigned, call_assigned, source_assigned}
use Rattle.mdr_sound.proofs.Rights.{not_right, same_right, after_right, both_right}
use Rattle.mdr_kept.specs.Plain.{IsPlainStep, GivesPlain, ArePlainRules}
use Rattle.mdr_kept.proofs.Steps.{plain_is}

-- ---- steps

assign_plain : (l : Lval) (e : Expr) → IsPlainStep (step.Assign l e)
assign_plain l e = plain_is (step.Assign l e) (λ n. Code.Assign n (lvalue_of l) (term_of e)) (λ n. code_is (stmt n (step.Assign l e)) (step.Assign l e) refl ∙ assign_is n l e) (λ n. tt)

call_plain : (target : Option Lval) (form : CallForm) → IsPlainStep (step.Call target form)
call_plain target form = plain_is (step.Call target form) (λ n. Code.Call n (goal_of target) (call_of form)) (λ n. code_is (stmt n (step.Call target form)) (step.Call target form) refl ∙ call_is n target form) (λ n. tt)

return_plain : (e : Expr) → IsPlainStep (step.Return (Some e))
return_plain e = plain_is (step.Return (Some e)) (λ n. Code.Return n (Some (term_of e))) (λ n. code_is (stmt n (step.Return (Some e))) (step.Return (Some e)) refl ∙ return_is n (Some e)) (λ n. tt)

return_call_plain : (form : CallForm) → IsPlainStep (step.ReturnCall form)
return_call_plain form = plain_is (step.ReturnCall form) (λ n. Code.Call n Goal.Back (call_of form)) (λ n. code_is (stmt n (step.ReturnCall form)) (step.ReturnCall form) refl ∙ return_call_is n form) (λ n. tt)

-- a step that is what is found right
gives : (s : Step) → IsPlainStep s → GivesPlain (Right s)
gives s h made e = subst IsPlainStep (same_right s made e) h

-- ---- what stands behind `=` and `return`

stored_gives : (p : Place) (l : Lval) (t : Ty) (src : Source) → GivesPlain (source_stored p l t src)
unfolding source_stored
stored_gives p l t (source.Value x) s e =
    let a = after_right (converted_at p t x) (value_to l) s e in
    gives (step.Assign l a.value) (assign_plain l a.value) s a.made
stored_gives p l t (source.Call c) s e =
    let a = after_right (call_as p t c) (call_to l) s e in
    gives (step.Call (Some l) a.value) (call_plain (Some l) a.value) s a.made

returned_gives : (p : Place) (t : Ty) (src : Source) → GivesPlain (source_returned p t src)
unfolding source_returned
returned_gives p t (source.Value x) s e =
    let a = after_right (converted_at p t x) value_back s e in
    gives (step.Return (Some a.value)) (return_plain a.value) s a.made
returned_gives p t (source.Call c) s e =
    let a = after_right (call_as p t c) call_back s e in
    gives (step.ReturnCall a.value) (return_call_plain a.value) s a.made

call_assigned_gives : (p : Place) (x : Operand) (c : TypedCall) → GivesPlain (call_assigned p x c)
unfolding call_assigned
call_assigned_gives p x c s e =
    let a = after_right (destination_at p x) (λ d. source_stored p d.object d.ty (source.Call c)) s e in
    stored_gives p a.value.object a.value.ty (source.Call c) s a.made

assigning_gives : (c : Checked Assignment) → GivesPlain (after c assigning)
assigning_gives c s e =
    let a = after_right c assigning s e in
    gives (step.Assign a.value.left a.value.right) (assign_plain a.value.left a.value.right) s a.made

value_assigned_gives : (scope : Scope) (p : Place) (op : Option AssignmentOperator) (x y : Operand) → GivesPlain (value_assigned scope p op x y)
unfolding value_assigned
value_assigned_gives scope p op x y s e = assigning_gives (assignment_rule scope p op (Right x) (Right y)) s e

-- a call, by itself or as a part
call_by_gives : (scope : Scope) (p : Place) (op : Option AssignmentOperator) (x : Operand) (c : TypedCall) (b : Bool) → GivesPlain (chosen b (call_assigned p x c) (after (call_value p c) (value_assigned scope p op x)))
call_by_gives scope p op x c true s e = call_assigned_gives p x c s e
call_by_gives scope p op x c false s e =
    let a = after_right (call_value p c) (value_assigned scope p op x) s e in
    value_assigned_gives scope p op x a.value s a.made

source_assigned_gives : (scope : Scope) (p : Place) (op : Option AssignmentOperator) (x : Operand) (src : Source) → GivesPlain (source_assigned scope p op x src)
unfolding source_assigned
source_assigned_gives scope p op x (source.Value y) s e = value_assigned_gives scope p op x y s e
source_assigned_gives scope p op x (source.Call c) s e = call_by_gives scope p op x c (is_plain op && not (is_active_operand x)) s e

-- ---- the rules

module _ (scope : Scope) where
  assigned_gives : (names : List LocalName) (p : Place) (op : List ℕ) (a b : Written) → GivesPlain (assigned scope names p op a b)
  unfolding assigned
  assigned_gives names p op a b s e =
      let c = both_right (typed scope names a) (source_of scope names b) (source_assigned scope p (assignment_operator op)) s e in
      source_assigned_gives scope p (assignment_operator op) c.left c.right s c.made

  stepped_gives : (names : List LocalName) (p : Place) (op : List ℕ) (a : Written) → GivesPlain (stepped scope names p op a)
  unfolding stepped
  stepped_gives names p op a s e = assigning_gives (step_rule scope p (step_operator op) (typed scope names a)) s e

  called_gives : (names : List LocalName) (w : Written) → GivesPlain (called scope names w)
  called_gives names (Written.Prefix p op a) s e = stepped_gives names p op a s e
  called_gives names (Written.Post p op a) s e = stepped_gives names p op a s e
  called_gives names (Written.Call p f args) s e =
      let a = after_right (call_at scope names p f args) calling s e in
      gives (step.Call None a.value.form) (call_plain None a.value.form) s a.made
  called_gives names w s e = not_right _ s e

  stored_by : (names : List LocalName) (p : Place) (l : Lval) (t : Ty) (w : Written) → GivesPlain (stored scope names p l t w)
  unfolding stored
  stored_by names p l t w s e =
      let a = after_right (source_of scope names w) (source_stored p l t) s e in
      stored_gives p l t a.value s a.made

  returned_by : (names : List LocalName) (p : Place) (t : Ty) (w : Written) → GivesPlain (returned scope names p t w)
  unfolding returned
  returned_by names p t w s e =
      let a = after_right (source_of scope names w) (source_returned p t) s e in
      returned_gives p t a.value s a.made

pub profile_plain : (scope : Scope) → ArePlainRules scope profile_rules
profile_plain scope = record { assigned = assigned_gives scope; called = called_gives scope; stored = stored_by scope; returned = returned_by scope }
