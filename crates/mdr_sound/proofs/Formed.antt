-- Types of objects and of functions that are formed.
use Rattle.std.proofs.Common.{◌≡◌, ℕ, Bool, true, false, IsTrue, List, [], ◌∷◌, length, map, refl, sym, ap, ◌∙◌, subst}
use Rattle.std.specs.List.{list_all}
use Rattle.mdr_core.specs.declared.program.Program.{Program}
use Rattle.mdr_core.specs.declared.types.Ty.{Ty, out-Ty}
use Rattle.mdr_core.specs.declared.types.Ty.TheFolds.{map-Ty}
use Rattle.mdr_core.specs.declared.types.Ty.TheOpen.{Ty-F}
use Rattle.mdr_core.specs.declared.types.Ty.TheVariants as type
use Rattle.mdr_core.specs.Layout.{chosen}
use Rattle.mdr_core.specs.Sound.{IsObjectSort}
use Rattle.mdr_core.specs.Types.{Sort, Wrong, Empty, Locks, Aggregate, Scalar, is_scalar_sort, is_result_sort, pointer_sort, function_sort, is_scalar, is_scalar_by, sort_layer, sort_of}
use Rattle.mdr_core.proofs.Laid.{sort_is}
use Rattle.mdr_sound.specs.Knowing.{IsFormed}
use Rattle.mdr_sound.proofs.Alike.{right_of, left_of}
use Rattle.mdr_sound.proofs.Layers.{sort_at, ptr_from, fun_from, pointed_formed, pointer_formed, function_formed}

-- ---- scalars

scalar_at : (n : ℕ) (t : Ty) (l : Ty-F Ty) → out-Ty t ≡ l → IsObjectSort (sort_of n t) → IsTrue (is_scalar_by l) → sort_of n t ≡ Scalar
scalar_at n t (Ty-F.Int k) is f h = sort_is n t ∙ ap (λ l. sort_layer n (map-Ty Ty Sort (sort_of n) l)) is
scalar_at n t Ty-F.Lock is f h = absurd cc
scalar_at n t (Ty-F.Struct s) is f h = absurd cc
scalar_at n t (Ty-F.Ptr u) is f h =
    let same : t ≡ type.Ptr u = ptr_from t u is in
    ap (sort_of n) same ∙ pointer_formed n u (pointed_formed n u (subst (λ v. IsObjectSort (sort_of n v)) same f))
scalar_at n t Ty-F.VoidPtr is f h = sort_is n t ∙ ap (λ l. sort_layer n (map-Ty Ty Sort (sort_of n) l)) is
scalar_at n t (Ty-F.Fun ts) is f h =
    let same : t ≡ type.Fun ts = fun_from t ts is in
    ap (sort_of n) same ∙ function_formed n ts (subst (λ v. IsObjectSort (sort_of n v)) same f)
scalar_at n t Ty-F.Void is f h = absurd cc

-- a type of scalars that is formed has their sort
pub formed_scalar : (program : Program) (t : Ty) → IsFormed program t → IsTrue (is_scalar t) → sort_of (length program.structs) t ≡ Scalar
formed_scalar program t f h = scalar_at (length program.structs) t (out-Ty t) refl f h

-- ---- what functions give: nothing, or a scalar

result_pointer : (s : Sort) → is_result_sort (pointer_sort s) ≡ true → pointer_sort s ≡ Scalar
result_pointer Wrong h = absurd cc
result_pointer Empty h = absurd cc
result_pointer Locks h = refl
result_pointer Aggregate h = refl
result_pointer Scalar h = refl

result_chosen : (b : Bool) → is_result_sort (chosen b Scalar Wrong) ≡ true → chosen b Scalar Wrong ≡ Scalar
result_chosen true h = refl
result_chosen false h = absurd cc

result_function : (ss : List Sort) → is_result_sort (function_sort ss) ≡ true → function_sort ss ≡ Scalar
result_function [] h = absurd cc
result_function (r ∷ ps) h = result_chosen _ h

result_at : (n : ℕ) (t : Ty) (l : Ty-F Ty) → out-Ty t ≡ l → is_result_sort (sort_of n t) ≡ true → IsTrue (is_scalar_by l) → sort_of n t ≡ Scalar
result_at n t (Ty-F.Int k) is r h = sort_at n t (Ty-F.Int k) is
result_at n t Ty-F.Lock is r h = absurd cc
result_at n t (Ty-F.Struct s) is r h = absurd cc
result_at n t (Ty-F.Ptr u) is r h = let s = sort_at n t (Ty-F.Ptr u) is in s ∙ result_pointer (sort_of n u) (subst (λ x. is_result_sort x ≡ true) s r)
result_at n t Ty-F.VoidPtr is r h = sort_at n t Ty-F.VoidPtr is
result_at n t (Ty-F.Fun ts) is r h = let s = sort_at n t (Ty-F.Fun ts) is in s ∙ result_function (map (sort_of n) ts) (subst (λ x. is_result_sort x ≡ true) s r)
result_at n t Ty-F.Void is r h = absurd cc

-- where it is a scalar it is one of the program
abbrev pub IsResult : ℕ → Ty → Type 0
IsResult n t = IsTrue (is_scalar t) → sort_of n t ≡ Scalar

pub void_result : (n : ℕ) → IsResult n type.Void
void_result n h = absurd (let lost : false ≡ true = sym (ap is_scalar_by type.outs-Void) ∙ h in cc)

-- ---- functions

scalar_sort : (s : Sort) → is_scalar_sort s ≡ true → s ≡ Scalar
scalar_sort Wrong h = absurd cc
scalar_sort Empty h = absurd cc
scalar_sort Locks h = absurd cc
scalar_sort Aggregate h = absurd cc
scalar_sort Scalar h = refl

-- each of the types is one of scalars
abbrev pub AreScalars : ℕ → List Ty → Type 0
AreScalars n [] = Unit {0}
AreScalars n (t ∷ ts) = (sort_of n t ≡ Scalar) × AreScalars n ts

all_scalars : (n : ℕ) (ts : List Ty) → list_all is_scalar_sort (map (sort_of n) ts) ≡ true → AreScalars n ts
all_scalars n [] h = tt
all_scalars n (t ∷ ts) h = (scalar_sort (sort_of n t) (left_of _ _ h), all_scalars n ts (right_of _ _ h))

chosen_scalar : (b : Bool) → chosen b Scalar Wrong ≡ Scalar → b ≡ true
chosen_scalar true e = refl
chosen_scalar false e = absurd cc

-- a function type that is formed
pub record IsFunction (n : ℕ) (ts : List Ty) : Type 0 where
  pub result : Ty
  pub params : List Ty
  pub is : ts ≡ result ∷ params
  pub scalars : AreScalars n params
  pub returns : IsResult n result

function_at : (n : ℕ) (ts : List Ty) → function_sort (map (sort_of n) ts) ≡ Scalar → IsFunction n ts
function_at n [] e = absurd cc
function_at n (r ∷ ps) e =
    let sorts = chosen_scalar _ e in
    record { result = r; params = ps; is = refl; scalars = all_scalars n ps (right_of _ _ sorts); returns = λ h. result_at n r (out-Ty r) refl (left_of _ _ sorts) h }

pub function_parts : (n : ℕ) (ts : List Ty) → sort_of n (type.Fun ts) ≡ Scalar → IsFunction n ts
function_parts n ts e = function_at n ts (sym (sort_is n (type.Fun ts) ∙ ap (λ l. sort_layer n (map-Ty Ty Sort (sort_of n) l)) (type.outs-Fun ts)) ∙ e)
