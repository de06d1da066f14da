-- What services are asked with, by their terms.
use Rattle.std.proofs.Common.{◌≡◌, Bool, false, Option, Some, None, refl, sym, ap, ◌∙◌}
use Rattle.std.specs.Prelude.{option_map}
use Rattle.mdr_core.specs.declared.refusal.RefuseKind.TheVariants as refusal
use Rattle.mdr_core.specs.declared.types.Ty.{Ty}
use Rattle.mdr_core.specs.Services.{Service, service_numbered}
use Rattle.mdr_fits.specs.declared.table.Parameter.{Parameter}
use Rattle.mdr_fits.specs.Judged.{fits_at}
use Rattle.mdr_fits.specs.Tables.{type_of}
use Rattle.mdr_meaning.specs.declared.wire.Wire.{Wire}
use Rattle.mdr_meaning.specs.Tree.{Asked}
use Rattle.mdr_model.specs.Faults.{fault}
use Rattle.mdr_split.specs.Legal.{service_fault, service_faults, terms_fault}
use Rattle.mdr_split.specs.Services.{Terms, terms_of}
use Rattle.mdr_split.specs.State.{Kernel, Open}
use Rattle.mdr_watched.specs.Driver.{Driver}

module _ (d : Driver) (k : Kernel) (u : Open) (asked : Asked) where
  asked_by : (o : Option Service) (t : Terms) → Some t ≡ option_map terms_of o → terms_fault d k u o t asked ≡ service_faults d k u o asked
  asked_by None t e = absurd (Prim.cc)
  asked_by (Some s) t e = let same : t ≡ terms_of s = Prim.cc in ap (λ (x : Terms). terms_fault d k u (Some s) x asked) same

  no_service : (o : Option Service) (found : Option Terms) → found ≡ None → found ≡ option_map terms_of o → Some (fault refusal.BadService 0) ≡ service_faults d k u o asked
  no_service None found n e = refl
  no_service (Some s) found n e = let bad : ◌≡◌ {A = Option Terms} None (Some (terms_of s)) = sym n ∙ e in absurd (Prim.cc)

  pub asked_is : (t : Terms) → Some t ≡ option_map terms_of (service_numbered asked.service) → terms_fault d k u (service_numbered asked.service) t asked ≡ service_fault d k u asked
  unfolding service_fault
  asked_is t e = asked_by (service_numbered asked.service) t e

  pub none_is : (found : Option Terms) → found ≡ None → found ≡ option_map terms_of (service_numbered asked.service) → Some (fault refusal.BadService 0) ≡ service_fault d k u asked
  unfolding service_fault
  none_is found nothing e = no_service (service_numbered asked.service) found nothing e

-- an argument by the type that it has at its position
pub argument_fits : (test : Ty → Wire → Bool) (o : Option Ty) (found : Option Parameter) (p : Parameter) (v : Wire) (b : Bool) → found ≡ Some p → option_map type_of found ≡ o → b ≡ test (type_of p) v → b ≡ fits_at test o v
argument_fits test o found p v b is at h = h ∙ ap (λ (x : Option Parameter). fits_at test (option_map type_of x) v) (sym is) ∙ ap (λ (x : Option Ty). fits_at test x v) at

pub no_argument : (test : Ty → Wire → Bool) (o : Option Ty) (found : Option Parameter) (v : Wire) → found ≡ None → option_map type_of found ≡ o → false ≡ fits_at test o v
no_argument test o found v is at = ap (λ (x : Option Parameter). fits_at test (option_map type_of x) v) (sym is) ∙ ap (λ (x : Option Ty). fits_at test x v) at
