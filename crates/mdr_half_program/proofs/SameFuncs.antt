-- The functions of the user half's text have its bodies, and all have their types.
use Rattle.std.proofs.Common.{◌≡◌, ℕ, zero, suc, false, not, List, [], ◌∷◌, map, Option, Some, slice_get, refl, sym, ap, ◌∙◌, subst}
use Rattle.std.specs.Option.{option_map}
use Rattle.mdr_core.specs.declared.plan.Half.{Half}
use Rattle.mdr_core.specs.declared.plan.Half.TheVariants.{Kernel, User}
use Rattle.mdr_core.specs.declared.plan.Plan.{Plan}
use Rattle.mdr_core.specs.declared.program.Func.{Func}
use Rattle.mdr_core.specs.declared.program.Param.{Param}
use Rattle.mdr_core.specs.declared.types.Ann.{Ann}
use Rattle.mdr_core.specs.declared.types.Ty.{Ty}
use Rattle.mdr_core.specs.declared.types.Ty.TheVariants as type
use Rattle.mdr_core.specs.Typing.{function_type}
use Rattle.mdr_half.specs.Halves.{half_of, is_same_half}
use Rattle.mdr_half_program.specs.Headings.{HasSameHeading, HaveSameHeadings, unnamed}
use Rattle.mdr_half_program.specs.Sides.{AreShown, IsShown}
use Rattle.mdr_half_program.specs.Suited.{HaveHalves}
use Rattle.mdr_watched.specs.Driver.{is_user_half}

-- ---- bodies

-- a function of the user half by its number is there as it is
own_same : (h : Half) (f g : Func) → not (is_user_half (Some h)) ≡ false → IsShown (is_same_half h User) f g → ◌≡◌ {A = Option Func} (Some g) (Some f)
own_same Kernel f g user shown = absurd cc
own_same User f g user shown = ap (λ (x : Func). Some x) shown

pub user_same : (plan : Plan) (hs : List Half) (fs gs : List Func) → AreShown User plan fs gs → HaveHalves (half_of plan) hs fs
    → (n : ℕ) → not (is_user_half (slice_get hs n)) ≡ false → slice_get gs n ≡ slice_get fs n
user_same plan [] fs gs shown halves n user = absurd cc
user_same plan (h ∷ hs) [] gs shown halves n user = absurd halves
user_same plan (h ∷ hs) (f ∷ fs) [] shown halves n user = absurd shown
user_same plan (h ∷ hs) (f ∷ fs) (g ∷ gs) shown halves zero user = own_same h f g user (subst (λ (x : Half). IsShown (is_same_half x User) f g) halves.0 shown.0)
user_same plan (h ∷ hs) (f ∷ fs) (g ∷ gs) shown halves (suc n) user = user_same plan hs fs gs shown.1 halves.1 n user

-- ---- types

abbrev type_in : Ty × Ann → Ty
type_in x = x.0

types_in : (ps : List Param) → map (λ (p : Param). p.ty) ps ≡ map type_in (map unnamed ps)
types_in [] = refl
types_in (p ∷ ps) = ap (λ (ts : List Ty). p.ty ∷ ts) (types_in ps)

type_same : (f g : Func) → HasSameHeading f g → function_type g ≡ function_type f
type_same f g same =
    let params : map (λ (p : Param). p.ty) g.params ≡ map (λ (p : Param). p.ty) f.params =
    types_in g.params ∙ ap (λ (xs : List (Ty × Ann)). map type_in xs) same.params ∙ sym (types_in f.params) in
    ap (λ (t : Ty). type.Fun (t ∷ map (λ (p : Param). p.ty) g.params)) same.result ∙ ap (λ (ts : List Ty). type.Fun (f.result ∷ ts)) params

pub headings_same : (fs gs : List Func) → HaveSameHeadings fs gs → (n : ℕ) → option_map function_type (slice_get gs n) ≡ option_map function_type (slice_get fs n)
headings_same [] [] same n = refl
headings_same [] (g ∷ gs) same n = absurd same
headings_same (f ∷ fs) [] same n = absurd same
headings_same (f ∷ fs) (g ∷ gs) same zero = ap (λ (t : Ty). Some t) (type_same f g same.0)
headings_same (f ∷ fs) (g ∷ gs) same (suc n) = headings_same fs gs same.1 n
