-- An allocation is a call of the program, if the type that it names is in the type table (C99 6.2.5).
use Rattle.std.proofs.Common.{◌≡◌, ℕ, List, [], ◌∷◌, length, map, Option, Some, None, slice_get, ◌==◌, refl, subst}
use Rattle.std.proofs.lemmas.Option.{none-some, same_Some}
use Rattle.mdr_core.specs.declared.kind.Kind.TheVariants.{U64}
use Rattle.mdr_core.specs.declared.place.Place.{Place}
use Rattle.mdr_core.specs.declared.program.Program.{Program}
use Rattle.mdr_core.specs.declared.types.Ty.{Ty}
use Rattle.mdr_core.specs.declared.types.Ty.TheVariants as type
use Rattle.mdr_rich.specs.Code.{Term}
use Rattle.mdr_rich.specs.Folds.{term_of}
use Rattle.mdr_core.specs.Services.{Service as CoreService, offered, service_numbered}
use Rattle.mdr_core.specs.Typing.{Slot}
use Rattle.mdr_rich.specs.Typing.{IsScalar, NamesHandler}
use Rattle.mdr_call.specs.declared.parts.Argument.{Argument}
use Rattle.mdr_call.specs.declared.parts.Argument.TheVariants as argument
use Rattle.mdr_call.specs.declared.parts.TypedCall.{TypedCall}
use Rattle.mdr_call.specs.Arguments.{arguments_as, first_off}
use Rattle.mdr_call.specs.Services.{type_argument, allocated, allocation_of, kzalloc, counted, counted_by, kcalloc}
use Rattle.mdr_faults.specs.declared.fault.FaultKind.TheVariants.{BadArity}
use Rattle.mdr_faults.specs.declared.scope.Scope.{Scope}
use Rattle.mdr_faults.specs.Declarations.{cells_of}
use Rattle.mdr_faults.specs.Faults.{Right, after}
use Rattle.mdr_operand.specs.declared.room.LocalName.{LocalName}
use Rattle.mdr_operand.specs.Forms.{needed}
use Rattle.mdr_sound.proofs.Formed.{AreScalars}
use Rattle.mdr_sound.proofs.FunctionCalls.{IsKnownCall}
use Rattle.mdr_sound.proofs.GivenArguments.{IsKnownArgument, AreKnownArguments, arguments_as_known}
use Rattle.mdr_sound.proofs.Layers.{sort_int, pointer_formed}
use Rattle.mdr_sound.proofs.Rights.{not_right, same_right, after_right, needed_right, chosen_right}
use Rattle.mdr_sound.proofs.TypesWritten.{IsWritten, has_cells}
use Rattle.mdr_sound.proofs.OfferedCalls.{first_known, service_known}

module _ (program : Program) (slots : List Slot) (names : List LocalName) where
  abbrev structs : ℕ
  structs = length program.structs

  module _ (scope : Scope) (p : Place) (call : TypedCall) where
    allocation_known : (s : CoreService) (n : ℕ) (counts : List Ty) (args : List Argument) (t : Ty) → service_numbered n ≡ Some s → offered s (Some t) None ≡ Some (record { params = counts; result = type.Ptr t })
        → ((ts : List Term) → NamesHandler s ts) → length counts ≡ length args → AreScalars structs counts → AreKnownArguments program slots names args → IsWritten program t
        → allocation_of scope p n counts args t ≡ Right call → IsKnownCall program slots names call
    unfolding allocation_of
    allocation_known s n counts args t numbered offers names_handler count f h written e =
        let a = after_right (cells_of scope p t) (λ cells. after (arguments_as p (type.Void ∷ counts) args) (λ es. Right (allocated n t es))) call e in
        let b = after_right (arguments_as p (type.Void ∷ counts) args) (λ es. Right (allocated n t es)) call a.made in
        let all = arguments_as_known program slots names p type.Void counts args b.value count f h b.right in
        let made : allocated n t b.value ≡ call = same_right _ _ b.made in
        let object : IsScalar program (type.Ptr t) = pointer_formed structs t (has_cells program scope p t a.value written a.right) in
        subst (IsKnownCall program slots names) made (service_known program slots names s n b.value (Some t) None counts (type.Ptr t) numbered offers all (names_handler (map term_of b.value)) object (λ h. object))

    type_known : (o : Option Argument) (t : Ty) → ((a : Argument) → o ≡ Some a → IsKnownArgument program slots names a) → type_argument o ≡ Some t → IsWritten program t
    type_known None t h q = absurd (none-some t q)
    type_known (Some (argument.Value x)) t h q = absurd (none-some t q)
    type_known (Some (argument.Text bytes)) t h q = absurd (none-some t q)
    type_known (Some (argument.Type u)) t h q = subst (IsWritten program) (same_Some _ _ q) (h (argument.Type u) refl)

    pub kzalloc_known : (args : List Argument) → AreKnownArguments program slots names args → kzalloc scope p args ≡ Right call → IsKnownCall program slots names call
    unfolding kzalloc
    kzalloc_known args h e =
        let d = chosen_right (length args == 1) (after (needed p (type_argument (slice_get args 0))) (allocation_of scope p 1 [] [])) p BadArity call e in
        let a = after_right (needed p (type_argument (slice_get args 0))) (allocation_of scope p 1 [] []) call d.right in
        let written = type_known (slice_get args 0) a.value (λ b. first_known program slots names args b h) (needed_right p (type_argument (slice_get args 0)) a.value a.right) in
        allocation_known CoreService.Kzalloc 1 [] [] a.value refl refl (λ ts. tt) refl tt tt written a.made

    counted_known : (count : Argument) (rest : List Argument) → IsKnownArgument program slots names count → AreKnownArguments program slots names rest → counted scope p count rest ≡ Right call → IsKnownCall program slots names call
    unfolding counted
    counted_known count rest h i e =
        let a = after_right (needed p (type_argument (slice_get rest 0))) (allocation_of scope p 2 (type.Int U64 ∷ []) (count ∷ [])) call e in
        let written = type_known (slice_get rest 0) a.value (λ b. first_known program slots names rest b i) (needed_right p (type_argument (slice_get rest 0)) a.value a.right) in
        allocation_known CoreService.Kcalloc 2 (type.Int U64 ∷ []) (count ∷ []) a.value refl refl (λ ts. tt) refl (sort_int structs U64, tt) (h, tt) written a.made

    counted_by_known : (args : List Argument) → AreKnownArguments program slots names args → counted_by scope p (first_off args) ≡ Right call → IsKnownCall program slots names call
    counted_by_known [] h e = not_right _ call e
    counted_by_known (a ∷ rest) h e = counted_known a rest h.0 h.1 e

    pub kcalloc_known : (args : List Argument) → AreKnownArguments program slots names args → kcalloc scope p args ≡ Right call → IsKnownCall program slots names call
    unfolding kcalloc
    kcalloc_known args h e = counted_by_known args h (chosen_right (length args == 2) (counted_by scope p (first_off args)) p BadArity call e).right
