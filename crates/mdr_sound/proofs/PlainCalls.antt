-- A call of a service that takes values alone is one of the program.
use Rattle.std.proofs.Common.{◌≡◌, inl, inr, ℕ, List, ◌∷◌, length, map, Some, None, refl, subst}
use Rattle.mdr_rich.specs.declared.code.Callee.TheVariants as callee
use Rattle.mdr_core.specs.declared.kind.Kind.TheVariants.{U8, U32}
use Rattle.mdr_core.specs.declared.place.Place.{Place}
use Rattle.mdr_core.specs.declared.program.Program.{Program}
use Rattle.mdr_core.specs.declared.types.Ty.{Ty}
use Rattle.mdr_core.specs.declared.types.Ty.TheVariants as type
use Rattle.mdr_rich.specs.Code.{Term}
use Rattle.mdr_rich.specs.Folds.{term_of}
use Rattle.mdr_core.specs.Services.{Service as CoreService, offered, service_numbered}
use Rattle.mdr_core.specs.Typing.{Slot}
use Rattle.mdr_rich.specs.Typing.{NamesHandler}
use Rattle.mdr_call.specs.declared.parts.Argument.{Argument}
use Rattle.mdr_call.specs.declared.parts.TypedCall.{TypedCall}
use Rattle.mdr_call.specs.declared.service.PlainService.{PlainService}
use Rattle.mdr_call.specs.declared.service.PlainService.TheVariants.{Kfree, Readl, Writel, FreeIrq, Deliver, Combolock, Combounlock, Bug}
use Rattle.mdr_call.specs.Arguments.{converted, plain_call}
use Rattle.mdr_call.specs.Functions.{call_with, result_of}
use Rattle.mdr_call.specs.Services.{plain_service}
use Rattle.mdr_faults.specs.Faults.{Right}
use Rattle.mdr_operand.specs.declared.room.LocalName.{LocalName}
use Rattle.mdr_sound.proofs.Formed.{AreScalars, IsResult, void_result}
use Rattle.mdr_sound.proofs.FunctionCalls.{IsKnownCall}
use Rattle.mdr_sound.proofs.GivenArguments.{AreKnownArguments, converted_all}
use Rattle.mdr_sound.proofs.Layers.{sort_int, sort_void_ptr, sort_lock, pointer_formed}
use Rattle.mdr_sound.proofs.Rights.{same_right, after_right}
use Rattle.mdr_sound.proofs.OfferedCalls.{service_known}

module _ (program : Program) (slots : List Slot) (names : List LocalName) where
  abbrev structs : ℕ
  structs = length program.structs

  module _ (p : Place) (args : List Argument) (known : AreKnownArguments program slots names args) (call : TypedCall) where
    plain_by : (s : CoreService) (n : ℕ) (params : List Ty) (r : Ty) → service_numbered n ≡ Some s → offered s None None ≡ Some (record { params = params; result = r })
        → ((ts : List Term) → NamesHandler s ts) → AreScalars structs params → IsResult structs r
        → call_with p args (record { callee = callee.Service n; types = r ∷ params }) ≡ Right call → IsKnownCall program slots names call
    unfolding call_with
    plain_by s n params r numbered offers names_handler f g e =
        let a = after_right (converted p (r ∷ params) args) (λ es. Right (plain_call (callee.Service n) es (result_of (r ∷ params)))) call e in
        let all = converted_all program slots names p r params args a.value f known a.right in
        subst (IsKnownCall program slots names) (same_right _ _ a.made) (service_known program slots names s n a.value None None params r numbered offers all (names_handler (map term_of a.value)) tt g)

    pub plain_service_known : (s : PlainService) → plain_service p args s ≡ Right call → IsKnownCall program slots names call
    unfolding plain_service
    plain_service_known Kfree e = plain_by CoreService.Kfree 3 _ _ refl refl (λ ts. tt) (sort_void_ptr structs, tt) (void_result structs) e
    plain_service_known Readl e = plain_by CoreService.Readl 4 _ _ refl refl (λ ts. tt) (sort_int structs U32, tt) (λ h. sort_int structs U32) e
    plain_service_known Writel e = plain_by CoreService.Writel 5 _ _ refl refl (λ ts. tt) (sort_int structs U32, (sort_int structs U32, tt)) (void_result structs) e
    plain_service_known FreeIrq e = plain_by CoreService.FreeIrq 8 _ _ refl refl (λ ts. tt) tt (void_result structs) e
    plain_service_known Deliver e = plain_by CoreService.Deliver 9 _ _ refl refl (λ ts. tt) (pointer_formed structs (type.Int U8) (inl (sort_int structs U8)), (sort_int structs U32, tt)) (void_result structs) e
    plain_service_known Combolock e = plain_by CoreService.Combolock 10 _ _ refl refl (λ ts. tt) (pointer_formed structs type.Lock (inr (inr (sort_lock structs))), tt) (void_result structs) e
    plain_service_known Combounlock e = plain_by CoreService.Combounlock 11 _ _ refl refl (λ ts. tt) (pointer_formed structs type.Lock (inr (inr (sort_lock structs))), tt) (void_result structs) e
    plain_service_known Bug e = plain_by CoreService.Bug 12 _ _ refl refl (λ ts. tt) tt (void_result structs) e
