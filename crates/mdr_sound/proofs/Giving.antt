-- What is given to an object or to the caller is given as in a sound program.
use Rattle.std.proofs.Common.{◌≡◌, List, length, Some, subst}
use Rattle.mdr_rich.specs.declared.code.CallForm.{CallForm}
use Rattle.mdr_rich.specs.declared.code.Lval.{Lval}
use Rattle.mdr_rich.specs.declared.code.Step.{Step}
use Rattle.mdr_rich.specs.declared.code.Step.TheVariants as step
use Rattle.mdr_core.specs.declared.place.Place.{Place}
use Rattle.mdr_core.specs.declared.program.Program.{Program}
use Rattle.mdr_core.specs.declared.types.Ty.{Ty}
use Rattle.mdr_rich.specs.Folds.{lvalue_of}
use Rattle.mdr_core.specs.Types.{Scalar, Becomes, sort_of}
use Rattle.mdr_core.specs.Typing.{Slot, One}
use Rattle.mdr_rich.specs.Typing.{Designates}
use Rattle.mdr_faults.specs.declared.fault.FaultKind.TheVariants.{Mismatch}
use Rattle.mdr_faults.specs.declared.scope.Scope.{Scope}
use Rattle.mdr_faults.specs.Faults.{Right}
use Rattle.mdr_operand.specs.declared.room.LocalName.{LocalName}
use Rattle.mdr_operand.specs.Converting.{converted_at}
use Rattle.mdr_operand.specs.Written.{Written}
use Rattle.mdr_call.specs.declared.parts.TypedCall.{TypedCall}
use Rattle.mdr_typing.specs.declared.source.Source.{Source}
use Rattle.mdr_typing.specs.declared.source.Source.TheVariants as source
use Rattle.mdr_typing.specs.Becoming.{becomes}
use Rattle.mdr_typing.specs.Sources.{call_as, value_to, call_to, source_stored, value_back, call_back, source_returned}
use Rattle.mdr_typing.proofs.Becomings.{becomes_exactly}
use Rattle.mdr_sound.proofs.Converted.{converted_known}
use Rattle.mdr_sound.proofs.Rights.{same_right, after_right, chosen_right}
use Rattle.mdr_sound.specs.Rules.{IsSoundStep}
use Rattle.mdr_sound.proofs.Entering.{scalar_is}
use Rattle.mdr_sound.proofs.Standing.{IsKnownSource}
use Rattle.mdr_sound.proofs.Stepping.{assign_sound, return_sound, call_sound, return_call_sound}

-- a call whose value becomes one of the type
pub record IsCallAs (t : Ty) (call : TypedCall) (form : CallForm) : Type 0 where
  pub becomes : Becomes call.result t
  pub same : call.form ≡ form

pub call_as_right : (p : Place) (t : Ty) (call : TypedCall) (form : CallForm) → call_as p t call ≡ Right form → IsCallAs t call form
unfolding call_as
call_as_right p t call form e =
    let c = chosen_right (becomes call.result t) (Right call.form) p Mismatch form e in
    record { becomes = (becomes_exactly call.result t).0 c.holds; same = same_right _ _ c.right }

module _ (program : Program) (slots : List Slot) (scope : Scope) (names : List LocalName) (result : Ty) where
  abbrev IsSort : Ty → Type 0
  IsSort t = sort_of (length program.structs) t ≡ Scalar

  -- ---- to an object

  pub stored_sound : (p : Place) (l : Lval) (t : Ty) (w : Written) (src : Source) (s : Step) → IsKnownSource program slots scope names w src → Designates program slots (lvalue_of l) (One t) → IsSort t → source_stored p l t src ≡ Right s → IsSoundStep program slots result s
  unfolding source_stored
  stored_sound p l t w (source.Value x) s h object sort e =
      let a = after_right (converted_at p t x) (value_to l) s e in
      subst (IsSoundStep program slots result) (same_right _ _ a.made)
      (assign_sound program slots result l a.value (record { type = t; scalar = scalar_is _ t sort; object = object; value = converted_known program slots names w p t x a.value a.right h sort }))
  stored_sound p l t w (source.Call c) s h object sort e =
      let a = after_right (call_as p t c) (call_to l) s e in
      let as_given = call_as_right p t c a.value a.right in
      subst (IsSoundStep program slots result) (same_right _ _ a.made)
      (subst (λ form. IsSoundStep program slots result (step.Call (Some l) form)) as_given.same
      (call_sound program slots result (Some l) c.form (record { type = t; given = c.result; scalar = scalar_is _ t sort; object = object; call_gives = h.gives; becomes = as_given.becomes })))

  -- ---- to the caller

  pub returned_sound : (p : Place) (w : Written) (src : Source) (s : Step) → IsKnownSource program slots scope names w src → IsSort result → source_returned p result src ≡ Right s → IsSoundStep program slots result s
  unfolding source_returned
  returned_sound p w (source.Value x) s h sort e =
      let a = after_right (converted_at p result x) value_back s e in
      subst (IsSoundStep program slots result) (same_right _ _ a.made)
      (return_sound program slots result a.value (scalar_is _ result sort, converted_known program slots names w p result x a.value a.right h sort))
  returned_sound p w (source.Call c) s h sort e =
      let a = after_right (call_as p result c) call_back s e in
      let as_given = call_as_right p result c a.value a.right in
      subst (IsSoundStep program slots result) (same_right _ _ a.made)
      (subst (λ form. IsSoundStep program slots result (step.ReturnCall form)) as_given.same
      (return_call_sound program slots result c.form (record { given = c.result; scalar = scalar_is _ result sort; call_gives = h.gives; becomes = as_given.becomes })))
