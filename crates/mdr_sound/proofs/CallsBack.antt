-- A `kcall` is a call of the program: of the service that calls back.
use Rattle.std.proofs.Common.{◌≡◌, ℕ, suc, List, [], ◌∷◌, length, ◌==◌, Some, refl, sym, ap, subst, arith, eqb-true, inr}
use Rattle.mdr_rich.specs.declared.code.Callee.TheVariants as callee
use Rattle.mdr_rich.specs.declared.code.Expr.{Expr}
use Rattle.mdr_core.specs.declared.place.Place.{Place}
use Rattle.mdr_core.specs.declared.program.Program.{Program}
use Rattle.mdr_core.specs.declared.types.Ty.{Ty}
use Rattle.mdr_core.specs.declared.types.Ty.TheVariants as type
use Rattle.mdr_core.specs.Typing.{Slot}
use Rattle.mdr_call.specs.declared.parts.Argument.{Argument}
use Rattle.mdr_call.specs.declared.parts.Argument.TheVariants as argument
use Rattle.mdr_call.specs.declared.parts.Handle.{Handle}
use Rattle.mdr_call.specs.declared.parts.TypedCall.{TypedCall}
use Rattle.mdr_call.specs.Arguments.{arguments_as, first_off, plain_call}
use Rattle.mdr_call.specs.Functions.{result_of}
use Rattle.mdr_call.specs.Services.{handle_argument, calling_back, called_back, kcall_of, kcall_by, kcall}
use Rattle.mdr_faults.specs.declared.fault.FaultKind.TheVariants.{Mismatch, BadArity}
use Rattle.mdr_faults.specs.Faults.{Right, after}
use Rattle.mdr_operand.specs.declared.room.LocalName.{LocalName}
use Rattle.mdr_operand.specs.Forms.{needed}
use Rattle.mdr_sound.specs.Operands.{IsHandle, IsOf}
use Rattle.mdr_sound.proofs.Formed.{AreScalars, IsResult, function_parts}
use Rattle.mdr_sound.proofs.FunctionCalls.{IsKnownCall, handle_known}
use Rattle.mdr_sound.proofs.GivenArguments.{IsKnownArgument, AreKnownArguments, arguments_as_known}
use Rattle.mdr_sound.proofs.Rights.{not_right, same_right, after_right, chosen_right, needed_right}
use Rattle.std.proofs.lemmas.Option.{none-some}

module _ (program : Program) (slots : List Slot) (names : List LocalName) (p : Place) where
  abbrev structs : ℕ
  structs = length program.structs

  -- what is called is a pointer to a function
  called_known : (a : Argument) (h : Handle) → IsKnownArgument program slots names a → handle_argument a ≡ Some h → IsHandle program slots h.value h.types
  called_known (argument.Value x) h k q = handle_known program slots names k.0 x _ h k.1 refl q
  called_known (argument.Text bytes) h k q = absurd (none-some h q)
  called_known (argument.Type t) h k q = absurd (none-some h q)

  -- with one parameter
  back_by : (h : Handle) (r : Ty) (params : List Ty) (rest : List Argument) (es : List Expr) → h.types ≡ r ∷ params → length h.types ≡ 2 → length rest ≡ 1 → AreScalars structs params → IsResult structs r
      → AreKnownArguments program slots names rest → IsHandle program slots h.value h.types → arguments_as p h.types rest ≡ Right es → IsKnownCall program slots names (calling_back h es)
  back_by h r [] rest es is two one formed g known handle e = let many : length h.types ≡ 1 = ap length is in absurd (omega (arith, many, two))
  back_by h r (t ∷ u ∷ params) rest es is two one formed g known handle e = let many : length h.types ≡ suc (suc (suc (length params))) = ap length is in absurd (omega (arith, many, two))
  back_by h r (t ∷ []) rest es is two one formed g known handle e =
      let all = arguments_as_known program slots names p r (t ∷ []) rest es (sym one) formed known (subst (λ (ts : List Ty). arguments_as p ts rest ≡ Right es) is e) in
      let value = subst (λ (ts : List Ty). IsOf program slots h.value (type.Fun ts)) is handle.value in
      subst (λ (ts : List Ty). IsKnownCall program slots names (plain_call (callee.Service 15) (h.value ∷ es) (result_of ts))) (sym is)
      (record { gives = inr (record { back = refl; no_type = refl; no_text = refl; param = t; args = (value, all) }); returns = g })

  module _ (call : TypedCall) where
    kcall_by_known : (args : List Argument) → length args ≡ 2 → AreKnownArguments program slots names args → kcall_by p (first_off args) ≡ Right call → IsKnownCall program slots names call
    unfolding kcall_of called_back
    kcall_by_known [] two known e = not_right _ call e
    kcall_by_known (a ∷ rest) two known e =
        let h = after_right (needed p (handle_argument a)) (called_back p rest) call e in
        let d = chosen_right (length h.value.types == 2) (after (arguments_as p h.value.types rest) (λ es. Right (calling_back h.value es))) p Mismatch call h.made in
        let b = after_right (arguments_as p h.value.types rest) (λ es. Right (calling_back h.value es)) call d.right in
        let handle = called_known a h.value known.0 (needed_right p (handle_argument a) h.value h.right) in
        let parts = function_parts structs h.value.types handle.formed in
        let one : length rest ≡ 1 = omega (arith, two) in
        subst (IsKnownCall program slots names) (same_right _ _ b.made)
        (back_by h.value parts.result parts.params rest b.value parts.is (eqb-true (length h.value.types) 2 d.holds) one parts.scalars parts.returns known.1 handle b.right)

    pub kcall_known : (args : List Argument) → AreKnownArguments program slots names args → kcall p args ≡ Right call → IsKnownCall program slots names call
    unfolding kcall
    kcall_known args known e =
        let d = chosen_right (length args == 2) (kcall_by p (first_off args)) p BadArity call e in
        kcall_by_known args (eqb-true (length args) 2 d.holds) known d.right
