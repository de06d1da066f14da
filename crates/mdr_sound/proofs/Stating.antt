-- Assignments, statements that are expressions, initialisers and returns keep to the rules of sound programs.
use Rattle.std.proofs.Common.{◌≡◌, ℕ, Bool, true, false, not, ◌&&◌, List, Option, None, subst}
use Rattle.mdr_rich.specs.declared.code.Step.{Step}
use Rattle.mdr_core.specs.declared.place.Place.{Place}
use Rattle.mdr_core.specs.declared.program.Program.{Program}
use Rattle.mdr_core.specs.declared.types.Ty.{Ty}
use Rattle.mdr_core.specs.Typing.{Slot}
use Rattle.mdr_faults.specs.declared.scope.Scope.{Scope}
use Rattle.mdr_faults.specs.Faults.{Right, after}
use Rattle.mdr_operand.specs.declared.operand.Operand.{Operand}
use Rattle.mdr_operand.specs.declared.operator.AssignmentOperator.{AssignmentOperator}
use Rattle.mdr_operand.specs.Forms.{is_active_operand}
use Rattle.mdr_core.specs.Layout.{chosen}
use Rattle.mdr_operand.specs.declared.room.LocalName.{LocalName}
use Rattle.mdr_operand.specs.Signs.{assignment_operator}
use Rattle.mdr_operand.specs.Written.{Written}
use Rattle.mdr_express.specs.Expressions.{typed}
use Rattle.mdr_call.specs.declared.parts.TypedCall.{TypedCall}
use Rattle.mdr_call.specs.Calls.{call_value}
use Rattle.mdr_assign.specs.Assignments.{assignment_rule, destination_at, step_operator, step_rule}
use Rattle.mdr_typing.specs.declared.source.Source.{Source}
use Rattle.mdr_typing.specs.declared.source.Source.TheVariants as source
use Rattle.mdr_express.specs.Expressions.{call_at}
use Rattle.mdr_typing.specs.Profile.{assigned, calling, stepped, called, stored, returned, profile_rules}
use Rattle.mdr_typing.specs.Sources.{source_of, source_stored, source_returned, assigning, is_plain, value_assigned, call_assigned, source_assigned}
use Rattle.mdr_sound.specs.Knowing.{Knows, KnowsLocals, HasNumbers, TakesNoSlot}
use Rattle.mdr_sound.specs.Operands.{IsKnown}
use Rattle.mdr_sound.proofs.Assigned.{destination_known, assignment_known, step_known}
use Rattle.mdr_sound.proofs.Expressions.{typed_known}
use Rattle.mdr_sound.proofs.FunctionCalls.{IsKnownCall}
use Rattle.mdr_sound.proofs.Formed.{formed_scalar}
use Rattle.mdr_sound.proofs.Inside.{inside_prefix, inside_post}
use Rattle.mdr_sound.proofs.Rights.{not_right, same_right, after_right, both_right}
use Rattle.mdr_sound.proofs.WrittenCalls.{call_value_known}
use Rattle.mdr_sound.specs.Rules.{IsSoundStep, IsRight, AreSoundRules}
use Rattle.mdr_sound.proofs.Giving.{stored_sound, returned_sound}
use Rattle.mdr_sound.proofs.Standing.{IsKnownSource, calls_known, source_known}
use Rattle.mdr_sound.proofs.Stepping.{assign_sound, call_sound}

module _ (program : Program) (slots : List Slot) (scope : Scope) (knows : Knows program scope) where
  module _ (names : List LocalName) (result : Ty) where
    -- ---- assignments

    call_assigned_sound : (p : Place) (u : Written) (x : Operand) (c : TypedCall) (s : Step) → IsKnown program slots names u x → IsKnownCall program slots names c → call_assigned p x c ≡ Right s → IsSoundStep program slots result s
    unfolding call_assigned
    call_assigned_sound p u x c s h calls e =
        let a = after_right (destination_at p x) (λ d. source_stored p d.object d.ty (source.Call c)) s e in
        let d = destination_known program slots names p u x a.value h a.right in
        stored_sound program slots scope names result p a.value.object a.value.ty u (source.Call c) s calls d.object.designates (formed_scalar program a.value.ty d.object.formed d.scalar) a.made

    value_assigned_sound : (p : Place) (u v : Written) (op : Option AssignmentOperator) (x y : Operand) (s : Step) → IsKnown program slots names u x → IsKnown program slots names v y → value_assigned scope p op x y ≡ Right s → IsSoundStep program slots result s
    unfolding value_assigned
    value_assigned_sound p u v op x y s h i e =
        let a = after_right (assignment_rule scope p op (Right x) (Right y)) assigning s e in
        subst (IsSoundStep program slots result) (same_right _ _ a.made)
        (assign_sound program slots result a.value.left a.value.right
        (assignment_known program slots names scope p u v op (Right x) (Right y) a.value (λ z q. subst (IsKnown program slots names u) (same_right _ _ q) h) (λ z q. subst (IsKnown program slots names v) (same_right _ _ q) i) a.right))

    -- a call, by itself or as a part
    call_by_sound : (p : Place) (u v : Written) (op : Option AssignmentOperator) (x : Operand) (c : TypedCall) (s : Step) (b : Bool) → IsKnown program slots names u x → IsKnownCall program slots names c
        → chosen b (call_assigned p x c) (after (call_value p c) (value_assigned scope p op x)) ≡ Right s → IsSoundStep program slots result s
    call_by_sound p u v op x c s true h i e = call_assigned_sound p u x c s h i e
    call_by_sound p u v op x c s false h i e =
        let a = after_right (call_value p c) (value_assigned scope p op x) s e in
        value_assigned_sound p u v op x a.value s h (call_value_known program slots scope names v p c a.value i a.right) a.made

    source_assigned_sound : (p : Place) (u v : Written) (op : Option AssignmentOperator) (x : Operand) (src : Source) (s : Step) → IsKnown program slots names u x → IsKnownSource program slots scope names v src → source_assigned scope p op x src ≡ Right s → IsSoundStep program slots result s
    unfolding source_assigned
    source_assigned_sound p u v op x (source.Value y) s h i e = value_assigned_sound p u v op x y s h i e
    source_assigned_sound p u v op x (source.Call c) s h i e = call_by_sound p u v op x c s (is_plain op && not (is_active_operand x)) h i e

    module _ (locals : KnowsLocals program slots names) where
      assigned_sound : (p : Place) (op : List ℕ) (a b : Written) (s : Step) → IsRight names a → IsRight names b → assigned scope names p op a b ≡ Right s → IsSoundStep program slots result s
      unfolding assigned
      assigned_sound p op a b s h i e =
          let c = both_right (typed scope names a) (source_of scope names b) (source_assigned scope p (assignment_operator op)) s e in
          source_assigned_sound p a b (assignment_operator op) c.left c.right s
          (typed_known program slots scope names knows locals a c.left h.numbers h.no_slot c.first)
          (source_known program slots scope names knows locals b c.right i.numbers i.no_slot c.second)
          c.made

      -- ---- statements that are expressions

      stepped_sound : (p : Place) (op : List ℕ) (a : Written) (s : Step) → HasNumbers a → TakesNoSlot names a → stepped scope names p op a ≡ Right s → IsSoundStep program slots result s
      unfolding stepped
      stepped_sound p op a s h t e =
          let c = after_right (step_rule scope p (step_operator op) (typed scope names a)) assigning s e in
          subst (IsSoundStep program slots result) (same_right _ _ c.made)
          (assign_sound program slots result c.value.left c.value.right
          (step_known program slots names scope p a (step_operator op) (typed scope names a) c.value (λ x q. typed_known program slots scope names knows locals a x h t q) c.right))

      called_sound : (w : Written) (s : Step) → IsRight names w → called scope names w ≡ Right s → IsSoundStep program slots result s
      called_sound (Written.Prefix p op a) s h e = stepped_sound p op a s h.numbers (inside_prefix names p op a h.no_slot) e
      called_sound (Written.Post p op a) s h e = stepped_sound p op a s h.numbers (inside_post names p op a h.no_slot) e
      called_sound (Written.Call p f args) s h e =
          let c = after_right (call_at scope names p f args) calling s e in
          let calls = calls_known program slots scope names knows locals p f args c.value h.numbers h.no_slot c.right in
          subst (IsSoundStep program slots result) (same_right _ _ c.made)
          (call_sound program slots result None c.value.form (c.value.result, calls.gives))
      called_sound (Written.Number p n k) s h e = not_right _ s e
      called_sound (Written.Null p) s h e = not_right _ s e
      called_sound (Written.Name p name) s h e = not_right _ s e
      called_sound (Written.Cast p base n a) s h e = not_right _ s e
      called_sound (Written.Binary p op a b) s h e = not_right _ s e
      called_sound (Written.Choice p c a b) s h e = not_right _ s e
      called_sound (Written.Subscript p a i) s h e = not_right _ s e
      called_sound (Written.Member p a is_arrow at name) s h e = not_right _ s e
      called_sound (Written.Text p bytes) s h e = not_right _ s e
      called_sound (Written.Names p base n) s h e = not_right _ s e

  -- ---- all of them

  pub profile_sound : AreSoundRules program slots scope profile_rules
  unfolding stored returned
  profile_sound = record {
    typed = λ names w x locals h e. typed_known program slots scope names knows locals w x h.numbers h.no_slot e;
    assigned = λ names p op a b s result locals h i e. assigned_sound names result locals p op a b s h i e;
    called = λ names w s result locals h e. called_sound names result locals w s h e;
    stored = λ names p l t w s result locals h object sort e.
        let a = after_right (source_of scope names w) (source_stored p l t) s e in
        stored_sound program slots scope names result p l t w a.value s (source_known program slots scope names knows locals w a.value h.numbers h.no_slot a.right) object sort a.made;
    returned = λ names p result w s locals h sort e.
        let a = after_right (source_of scope names w) (source_returned p result) s e in
        returned_sound program slots scope names result p w a.value s (source_known program slots scope names knows locals w a.value h.numbers h.no_slot a.right) sort a.made;
  }
