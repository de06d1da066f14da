-- What stands behind `=` and `return` is known: a value, or a call that gives one.
use Rattle.std.proofs.Common.{◌≡◌, Bool, true, false, List, refl, subst}
use Rattle.mdr_core.specs.declared.place.Place.{Place}
use Rattle.mdr_core.specs.declared.program.Program.{Program}
use Rattle.mdr_core.specs.declared.types.Ty.{out-Ty}
use Rattle.mdr_core.specs.Layout.{chosen}
use Rattle.mdr_core.specs.Typing.{Slot}
use Rattle.mdr_faults.specs.declared.fault.FaultKind.TheVariants.{Mismatch}
use Rattle.mdr_faults.specs.declared.scope.Scope.{Scope}
use Rattle.mdr_faults.specs.Declarations.{is_void}
use Rattle.mdr_faults.specs.Faults.{Checked, Right, Wrong, after}
use Rattle.mdr_operand.specs.declared.operand.Operand.{Operand}
use Rattle.mdr_operand.specs.declared.room.LocalName.{LocalName}
use Rattle.mdr_operand.specs.Written.{Written, Writtens}
use Rattle.mdr_express.specs.Expressions.{typed}
use Rattle.mdr_call.specs.declared.parts.TypedCall.{TypedCall}
use Rattle.mdr_typing.specs.declared.source.Source.{Source}
use Rattle.mdr_typing.specs.declared.source.Source.TheVariants as source
use Rattle.mdr_express.specs.Expressions.{call_at}
use Rattle.mdr_typing.specs.Sources.{value_source, call_source, is_pointer_value, is_pointer_of, pointer_source, cast_source, source_of}
use Rattle.mdr_sound.specs.Knowing.{Knows, KnowsLocals, HasNumbers, TakesNoSlot}
use Rattle.mdr_sound.specs.Operands.{IsKnown}
use Rattle.mdr_sound.proofs.Expressions.{typed_known, call_at_known}
use Rattle.mdr_sound.proofs.FunctionCalls.{IsKnownCall}
use Rattle.mdr_sound.proofs.Inside.{inside_callee, inside_arguments, inside_cast}
use Rattle.mdr_sound.proofs.Rights.{same_right, after_right, refused_right}

module _ (program : Program) (slots : List Slot) (scope : Scope) (names : List LocalName) where
  abbrev pub IsKnownSource : Written → Source → Type 0
  IsKnownSource w (source.Value x) = IsKnown program slots names w x
  IsKnownSource w (source.Call c) = IsKnownCall program slots names c

  module _ (knows : Knows program scope) (locals : KnowsLocals program slots names) where
    pub calls_known : (p : Place) (f : Written) (args : Writtens) (call : TypedCall) → HasNumbers (Written.Call p f args) → TakesNoSlot names (Written.Call p f args) → call_at scope names p f args ≡ Right call → IsKnownCall program slots names call
    calls_known p f args call h t e = call_at_known program slots scope names knows locals p f args call h.0 (inside_callee names p f args t) h.1 (inside_arguments names p f args t) e

    call_source_known : (w : Written) (p : Place) (call : TypedCall) (s : Source) → IsKnownCall program slots names call → call_source p call ≡ Right s → IsKnownSource w s
    unfolding call_source
    call_source_known w p call s h e =
        let c = refused_right (is_void call.result) (Right (source.Call call)) p Mismatch s e in
        subst (IsKnownSource w) (same_right _ _ c.right) h

    value_source_known : (w : Written) (s : Source) → HasNumbers w → TakesNoSlot names w → after (typed scope names w) value_source ≡ Right s → IsKnownSource w s
    value_source_known w s h t e =
        let a = after_right (typed scope names w) value_source s e in
        subst (IsKnownSource w) (same_right _ _ a.made) (typed_known program slots scope names knows locals w a.value h t a.right)

    -- what stands in a cast, and what the cast gives
    pointer_known : (w : Written) (c : Checked Source) (x : Operand) (s : Source) → ((call : TypedCall) → c ≡ Right (source.Call call) → IsKnownCall program slots names call) → IsKnown program slots names w x → pointer_source c x ≡ Right s → IsKnownSource w s
    pointer_known w (Right (source.Call call)) x s inner h e = either (is_pointer_of (out-Ty call.result) x) e
      where
        either : (b : Bool) → chosen b (Right (source.Call call)) (value_source x) ≡ Right s → IsKnownSource w s
        either true e = subst (IsKnownSource w) (same_right _ _ e) (inner call refl)
        either false e = subst (IsKnownSource w) (same_right _ _ e) h
    pointer_known w (Right (source.Value y)) x s inner h e = subst (IsKnownSource w) (same_right _ _ e) h
    pointer_known w (Wrong f) x s inner h e = subst (IsKnownSource w) (same_right _ _ e) h

    cast_known : (w : Written) (c : Checked Source) (x : Operand) (s : Source) → ((call : TypedCall) → c ≡ Right (source.Call call) → IsKnownCall program slots names call) → IsKnown program slots names w x → cast_source c x ≡ Right s → IsKnownSource w s
    unfolding cast_source
    cast_known w c x s inner h e = either (is_pointer_value x) e
      where
        either : (b : Bool) → chosen b (pointer_source c x) (value_source x) ≡ Right s → IsKnownSource w s
        either true e = pointer_known w c x s inner h e
        either false e = subst (IsKnownSource w) (same_right _ _ e) h

    pub source_known : (w : Written) (s : Source) → HasNumbers w → TakesNoSlot names w → source_of scope names w ≡ Right s → IsKnownSource w s
    source_known (Written.Call p f args) s h t e =
        let a = after_right (call_at scope names p f args) (call_source p) s e in
        call_source_known (Written.Call p f args) p a.value s (calls_known p f args a.value h t a.right) a.made
    source_known (Written.Number p n k) s h t e = value_source_known (Written.Number p n k) s h t e
    source_known (Written.Null p) s h t e = value_source_known (Written.Null p) s h t e
    source_known (Written.Name p name) s h t e = value_source_known (Written.Name p name) s h t e
    source_known (Written.Prefix p op a) s h t e = value_source_known (Written.Prefix p op a) s h t e
    source_known (Written.Post p op a) s h t e = value_source_known (Written.Post p op a) s h t e
    source_known (Written.Cast p base n a) s h t e =
        let c = after_right (typed scope names (Written.Cast p base n a)) (cast_source (source_of scope names a)) s e in
        cast_known (Written.Cast p base n a) (source_of scope names a) c.value s (λ call is. source_known a (source.Call call) h (inside_cast names p base n a t) is) (typed_known program slots scope names knows locals (Written.Cast p base n a) c.value h t c.right) c.made
    source_known (Written.Binary p op a b) s h t e = value_source_known (Written.Binary p op a b) s h t e
    source_known (Written.Choice p c a b) s h t e = value_source_known (Written.Choice p c a b) s h t e
    source_known (Written.Subscript p a i) s h t e = value_source_known (Written.Subscript p a i) s h t e
    source_known (Written.Member p a is_arrow at name) s h t e = value_source_known (Written.Member p a is_arrow at name) s h t e
    source_known (Written.Text p bytes) s h t e = value_source_known (Written.Text p bytes) s h t e
    source_known (Written.Names p base n) s h t e = value_source_known (Written.Names p base n) s h t e
