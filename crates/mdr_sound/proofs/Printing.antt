-- A `printk` is a call of the program.
use Rattle.std.proofs.Common.{◌≡◌, ℕ, List, [], ◌∷◌, length, map, Some, None, refl, ap, subst}
use Rattle.mdr_core.specs.declared.kind.Kind.{Kind}
use Rattle.mdr_core.specs.declared.place.Place.{Place}
use Rattle.mdr_core.specs.declared.program.Program.{Program}
use Rattle.mdr_core.specs.declared.types.Ty.TheVariants as type
use Rattle.mdr_core.specs.Services.{Reading, Service as CoreService, printed as printed_signature, directives}
use Rattle.mdr_core.specs.Typing.{Slot}
use Rattle.mdr_call.specs.declared.parts.Argument.{Argument}
use Rattle.mdr_call.specs.declared.parts.TypedCall.{TypedCall}
use Rattle.mdr_call.specs.Arguments.{converted, first_off}
use Rattle.mdr_call.specs.Services.{text_argument, printing, printed_with, printed, printed_first, printed_by, printk}
use Rattle.mdr_faults.specs.Faults.{Right}
use Rattle.mdr_operand.specs.declared.room.LocalName.{LocalName}
use Rattle.mdr_operand.specs.Forms.{needed}
use Rattle.mdr_sound.proofs.Formed.{AreScalars, void_result}
use Rattle.mdr_sound.proofs.FunctionCalls.{IsKnownCall}
use Rattle.mdr_sound.proofs.GivenArguments.{AreKnownArguments, converted_all}
use Rattle.mdr_sound.proofs.Layers.{sort_int}
use Rattle.mdr_sound.proofs.Rights.{not_right, same_right, after_right, needed_right}
use Rattle.mdr_sound.proofs.OfferedCalls.{service_known}

module _ (program : Program) (slots : List Slot) (names : List LocalName) where
  abbrev structs : ℕ
  structs = length program.structs

  integers : (ks : List Kind) → AreScalars structs (map type.Int ks)
  integers [] = tt
  integers (k ∷ ks) = (sort_int structs k, integers ks)

  module _ (p : Place) (call : TypedCall) where
    printed_known : (text : List ℕ) (args : List Argument) → AreKnownArguments program slots names args → printed p args text ≡ Right call → IsKnownCall program slots names call
    unfolding printed printed_with
    printed_known text args h e =
        let k = after_right (needed p (directives Reading.Plain text)) (printed_with p text args) call e in
        let a = after_right (converted p (type.Void ∷ map type.Int k.value) args) (λ es. Right (printing text es)) call k.made in
        let takes = needed_right p (directives Reading.Plain text) k.value k.right in
        let all = converted_all program slots names p type.Void (map type.Int k.value) args a.value (integers k.value) h a.right in
        subst (IsKnownCall program slots names) (same_right _ _ a.made) (service_known program slots names CoreService.Printk 6 a.value None (Some text) (map type.Int k.value) type.Void refl (ap printed_signature takes) all tt tt (void_result structs))

    printed_by_known : (args : List Argument) → AreKnownArguments program slots names args → printed_by p (first_off args) ≡ Right call → IsKnownCall program slots names call
    unfolding printed_first
    printed_by_known [] h e = not_right _ call e
    printed_by_known (a ∷ rest) h e =
        let t = after_right (needed p (text_argument a)) (printed p rest) call e in
        printed_known t.value rest h.1 t.made

    pub printk_known : (args : List Argument) → AreKnownArguments program slots names args → printk p args ≡ Right call → IsKnownCall program slots names call
    unfolding printk
    printk_known args h e = printed_by_known args h e
