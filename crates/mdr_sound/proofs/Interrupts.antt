-- A `request_irq` is a call of the program: it names a function that takes and gives nothing.
use Rattle.std.proofs.Common.{◌≡◌, ℕ, Bool, true, false, List, [], ◌∷◌, length, Option, Some, None, slice_get, ◌==◌, arith, refl, ap, sym, ◌∙◌, subst, eqb-true}
use Rattle.mdr_rich.specs.declared.code.Expr.TheVariants as expr
use Rattle.mdr_core.specs.declared.kind.Kind.TheVariants.{S32}
use Rattle.mdr_core.specs.declared.place.Place.{Place}
use Rattle.mdr_core.specs.declared.program.Program.{Program}
use Rattle.mdr_core.specs.declared.types.Ty.{Ty, out-Ty, roll-Ty, roll-out-Ty}
use Rattle.mdr_core.specs.declared.types.Ty.TheOpen.{Ty-F}
use Rattle.mdr_core.specs.declared.types.Ty.TheVariants as type
use Rattle.mdr_core.specs.declared.value.Value.TheVariants as value
use Rattle.mdr_core.specs.Services.{Service as CoreService, handler_type}
use Rattle.mdr_core.specs.Layout.{chosen}
use Rattle.mdr_core.specs.Typing.{Slot}
use Rattle.mdr_rich.proofs.Coded as coded
use Rattle.mdr_call.specs.declared.parts.Argument.{Argument}
use Rattle.mdr_call.specs.declared.parts.Argument.TheVariants as argument
use Rattle.mdr_call.specs.declared.parts.TypedCall.{TypedCall}
use Rattle.mdr_call.specs.Services.{is_handler, handler_by, handler, requested, request_irq}
use Rattle.mdr_faults.specs.declared.fault.FaultKind.TheVariants.{BadArity}
use Rattle.mdr_faults.specs.Declarations.{is_void_by}
use Rattle.mdr_faults.specs.Faults.{Right}
use Rattle.mdr_operand.specs.declared.operand.Operand.{Operand}
use Rattle.mdr_operand.specs.declared.operand.Operand.TheVariants as operand
use Rattle.mdr_operand.specs.declared.room.LocalName.{LocalName}
use Rattle.mdr_operand.specs.Written.{Written}
use Rattle.mdr_sound.specs.Operands.{IsOf, IsFunctionNamed, IsKnown}
use Rattle.mdr_sound.proofs.Alike.{left_of}
use Rattle.mdr_sound.proofs.FunctionCalls.{IsKnownCall}
use Rattle.mdr_sound.proofs.GivenArguments.{IsKnownArgument, AreKnownArguments}
use Rattle.mdr_sound.proofs.Layers.{sort_int}
use Rattle.mdr_sound.proofs.Rights.{not_right, same_right, chosen_right}
use Rattle.mdr_sound.proofs.Values.{of_term}
use Rattle.mdr_sound.proofs.OfferedCalls.{first_known, service_known}

void_from : (t : Ty) (l : Ty-F Ty) → out-Ty t ≡ l → is_void_by l ≡ true → type.Void ≡ t
void_from t Ty-F.Void is h = sym (sym (roll-out-Ty t) ∙ ap roll-Ty is ∙ type.rolls-Void)
void_from t l is h = absurd cc

handler_types : (ts : List Ty) → is_handler ts ≡ true → type.Void ∷ [] ≡ ts
handler_types [] h = absurd cc
handler_types (t ∷ []) h = ap (λ u. u ∷ []) (void_from t (out-Ty t) refl h)
handler_types (t ∷ u ∷ rest) h =
    let count = eqb-true (length (t ∷ u ∷ rest)) 1 (left_of _ _ h) in
    absurd (let f : ⊥ = omega (arith, count) in f)

module _ (program : Program) (slots : List Slot) (names : List LocalName) where
  abbrev structs : ℕ
  structs = length program.structs

  module _ (p : Place) (call : TypedCall) where
    requested_known : (f : ℕ) (ts : List Ty) → IsFunctionNamed program f ts → is_handler ts ≡ true → requested p (Some f) ≡ Right call → IsKnownCall program slots names call
    requested_known f ts h handles e =
        let lit = coded.lit_is (value.Fn f) in
        let has : IsOf program slots (expr.Lit (value.Fn f)) handler_type = of_term program slots _ _ handler_type lit (h.func, h.names, ap type.Fun (handler_types ts handles) ∙ sym h.types) in
        subst (IsKnownCall program slots names) (same_right _ _ e)
        (service_known program slots names CoreService.RequestIrq 7 (expr.Lit (value.Fn f) ∷ []) None None (handler_type ∷ []) (type.Int S32) refl refl (has, tt) (f, ap (λ x. x ∷ []) lit) tt (λ h. sort_int structs S32))

    function_requested : (f : ℕ) (ts : List Ty) (b : Bool) → IsFunctionNamed program f ts → is_handler ts ≡ b → requested p (chosen b (Some f) None) ≡ Right call → IsKnownCall program slots names call
    function_requested f ts true h handles e = requested_known f ts h handles e
    function_requested f ts false h handles e = not_right _ call e

    operand_requested : (u : Written) (x : Operand) → IsKnown program slots names u x → requested p (handler_by x) ≡ Right call → IsKnownCall program slots names call
    operand_requested u (operand.Value v) h e = not_right _ call e
    operand_requested u (operand.Zero k) h e = not_right _ call e
    operand_requested u operand.Null h e = not_right _ call e
    operand_requested u (operand.Object l t) h e = not_right _ call e
    operand_requested u (operand.Array l t n) h e = not_right _ call e
    operand_requested u (operand.Function f ts) h e = function_requested f ts (is_handler ts) h refl e

    requested_by : (o : Option Argument) → ((a : Argument) → o ≡ Some a → IsKnownArgument program slots names a) → requested p (handler o) ≡ Right call → IsKnownCall program slots names call
    requested_by None h e = not_right _ call e
    requested_by (Some (argument.Value x)) h e = let known = h (argument.Value x) refl in operand_requested known.0 x known.1 e
    requested_by (Some (argument.Text bytes)) h e = not_right _ call e
    requested_by (Some (argument.Type t)) h e = not_right _ call e

    pub request_irq_known : (args : List Argument) → AreKnownArguments program slots names args → request_irq p args ≡ Right call → IsKnownCall program slots names call
    unfolding request_irq
    request_irq_known args h e = requested_by (slice_get args 0) (λ a. first_known program slots names args a h) (chosen_right (length args == 1) (requested p (handler (slice_get args 0))) p BadArity call e).right
