-- The sort and the text of a type from one level of it, and what the sort tells.
use Rattle.std.proofs.Common.{◌≡◌, ℕ, Bool, true, false, ◌&&◌, ◌||◌, nat_lt, List, [], ◌∷◌, map, IsTrue, refl, sym, ap, ◌∙◌}
use Rattle.mdr_core.specs.declared.types.Ty.{Ty, out-Ty}
use Rattle.mdr_core.specs.declared.types.Ty.TheOpen.{Ty-F}
use Rattle.mdr_core.specs.declared.types.Ty.TheFolds.{map-Ty, fold_out-Ty}
use Rattle.mdr_core.specs.declared.program.StructDef.{StructDef}
use Rattle.mdr_core.specs.Layout.{chosen}
use Rattle.mdr_core.specs.TypeText.{Text, text_layer, text_of}
use Rattle.mdr_core.specs.Types.{Sort, Wrong, Empty, Locks, Aggregate, Scalar, pointer_sort, function_sort, is_scalar_sort, is_result_sort, sort_layer, sort_of, is_scalar, is_scalar_by, is_pointer, is_pointer_by}
use Rattle.mdr_core.proofs.Laid.{sort_is}
use Rattle.mdr_plan.specs.TypeTexts.{is_void_by, is_result}

pub sort_at : (n : ℕ) (t : Ty) (l : Ty-F Ty) → out-Ty t ≡ l → sort_of n t ≡ sort_layer n (map-Ty Ty Sort (sort_of n) l)
sort_at n t l e = sort_is n t ∙ ap (λ (m : Ty-F Ty). sort_layer n (map-Ty Ty Sort (sort_of n) m)) e

pub text_at : (structs : List StructDef) (t : Ty) (l : Ty-F Ty) → out-Ty t ≡ l → text_of structs t ≡ text_layer structs (map-Ty Ty Text (text_of structs) l)
unfolding text_of
text_at structs t l e = fold_out-Ty Text (text_layer structs) t ∙ ap (λ (m : Ty-F Ty). text_layer structs (map-Ty Ty Text (text_of structs) m)) e

-- ---- tests

pub parts_of : (a b : Bool) → (a && b) ≡ true → (a ≡ true) × (b ≡ true)
parts_of true b h = (refl, h)
parts_of false b h = absurd cc

pub formed_function : (b : Bool) → (chosen b Scalar Wrong ≡ Wrong → ⊥) → b ≡ true
formed_function true h = refl
formed_function false h = absurd (h refl)

pub formed_struct : (b : Bool) → (chosen b Aggregate Wrong ≡ Wrong → ⊥) → b ≡ true
formed_struct true h = refl
formed_struct false h = absurd (h refl)

pub no_scalar_wrong : (s : Sort) → is_scalar_sort s ≡ true → s ≡ Wrong → ⊥
no_scalar_wrong Wrong h e = absurd cc
no_scalar_wrong Empty h e = absurd cc
no_scalar_wrong Locks h e = absurd cc
no_scalar_wrong Aggregate h e = absurd cc
no_scalar_wrong Scalar h e = absurd cc

pub no_result_wrong : (s : Sort) → is_result_sort s ≡ true → s ≡ Wrong → ⊥
no_result_wrong Wrong h e = absurd cc
no_result_wrong Empty h e = absurd cc
no_result_wrong Locks h e = absurd cc
no_result_wrong Aggregate h e = absurd cc
no_result_wrong Scalar h e = absurd cc

-- ---- scalars and results

struct_no_scalar : {A : Type 0} (b : Bool) → is_scalar_sort (chosen b Aggregate Wrong) ≡ true → A
struct_no_scalar true h = absurd cc
struct_no_scalar false h = absurd cc

struct_no_result : {A : Type 0} (b : Bool) → is_result_sort (chosen b Aggregate Wrong) ≡ true → A
struct_no_result true h = absurd cc
struct_no_result false h = absurd cc

scalar_by : (n : ℕ) (l : Ty-F Ty) → is_scalar_sort (sort_layer n (map-Ty Ty Sort (sort_of n) l)) ≡ true → IsTrue (is_scalar_by l)
scalar_by n (Ty-F.Int k) h = refl
scalar_by n Ty-F.Lock h = absurd cc
scalar_by n (Ty-F.Struct s) h = struct_no_scalar (nat_lt s n) h
scalar_by n (Ty-F.Ptr t) h = refl
scalar_by n Ty-F.VoidPtr h = refl
scalar_by n (Ty-F.Fun ts) h = refl
scalar_by n Ty-F.Void h = absurd cc

pub scalar_of : (n : ℕ) (t : Ty) → is_scalar_sort (sort_of n t) ≡ true → IsTrue (is_scalar t)
scalar_of n t h = scalar_by n (out-Ty t) (ap is_scalar_sort (sym (sort_is n t)) ∙ h)

result_by : (n : ℕ) (l : Ty-F Ty) → is_result_sort (sort_layer n (map-Ty Ty Sort (sort_of n) l)) ≡ true → IsTrue (is_void_by l || is_scalar_by l)
result_by n (Ty-F.Int k) h = refl
result_by n Ty-F.Lock h = absurd cc
result_by n (Ty-F.Struct s) h = struct_no_result (nat_lt s n) h
result_by n (Ty-F.Ptr t) h = refl
result_by n Ty-F.VoidPtr h = refl
result_by n (Ty-F.Fun ts) h = refl
result_by n Ty-F.Void h = refl

pub result_of : (n : ℕ) (t : Ty) → is_result_sort (sort_of n t) ≡ true → IsTrue (is_result t)
result_of n t h = result_by n (out-Ty t) (ap is_result_sort (sym (sort_is n t)) ∙ h)

-- ---- pointers

pointer_by : (s : Sort) → (pointer_sort s ≡ Wrong → ⊥) → pointer_sort s ≡ Scalar
pointer_by Wrong h = absurd (h refl)
pointer_by Empty h = absurd (h refl)
pointer_by Locks h = refl
pointer_by Aggregate h = refl
pointer_by Scalar h = refl

function_by : (b : Bool) → (chosen b Scalar Wrong ≡ Wrong → ⊥) → chosen b Scalar Wrong ≡ Scalar
function_by true h = refl
function_by false h = absurd (h refl)

signature_by : (ss : List Sort) → (function_sort ss ≡ Wrong → ⊥) → function_sort ss ≡ Scalar
signature_by [] h = absurd (h refl)
signature_by (r ∷ ps) h = function_by _ h

pointer_layer : (n : ℕ) (l : Ty-F Ty) → IsTrue (is_pointer_by l) → (sort_layer n (map-Ty Ty Sort (sort_of n) l) ≡ Wrong → ⊥) → sort_layer n (map-Ty Ty Sort (sort_of n) l) ≡ Scalar
pointer_layer n (Ty-F.Int k) p h = refl
pointer_layer n Ty-F.Lock p h = absurd cc
pointer_layer n (Ty-F.Struct s) p h = absurd cc
pointer_layer n (Ty-F.Ptr t) p h = pointer_by (sort_of n t) h
pointer_layer n Ty-F.VoidPtr p h = refl
pointer_layer n (Ty-F.Fun ts) p h = signature_by (map (sort_of n) ts) h
pointer_layer n Ty-F.Void p h = absurd cc

-- a pointer type that is formed is a scalar
pub pointer_scalar : (n : ℕ) (t : Ty) → IsTrue (is_pointer t) → (sort_of n t ≡ Wrong → ⊥) → sort_of n t ≡ Scalar
pointer_scalar n t p h = sort_is n t ∙ pointer_layer n (out-Ty t) p (λ e. h (sort_is n t ∙ e))
