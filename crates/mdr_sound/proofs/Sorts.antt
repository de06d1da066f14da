-- Of which sort a type is.
use Rattle.std.proofs.Common.{◌≡◌, ℕ, ◌<◌, ◌⊎◌, inl, inr, Bool, true, false, nat_lt, List, [], ◌∷◌, map, refl, sym, ap, subst, ◌∙◌, arith}
use Rattle.std.specs.Prelude.{◌&&◌, ◌||◌}
use Rattle.std.specs.List.{list_all}
use Rattle.mdr_core.specs.declared.types.Ty.{Ty, out-Ty, roll-Ty, roll-out-Ty}
use Rattle.mdr_core.specs.declared.types.Ty.TheOpen.{Ty-F}
use Rattle.mdr_core.specs.declared.types.Ty.TheFolds.{fold-roll-Ty, map-Ty}
use Rattle.mdr_core.specs.declared.types.Ty.TheVariants as type
use Rattle.mdr_core.specs.Layout.{chosen}
use Rattle.mdr_core.specs.Sound.{IsObjectSort}
use Rattle.mdr_core.specs.Types.{Sort, Wrong, Empty, Locks, Aggregate, Scalar, sort_of, sort_layer, pointer_sort, function_sort, is_result_sort, is_scalar_sort, is_scalar, is_scalar_by}
use Rattle.mdr_core.proofs.Laid.{sort_is}
use Rattle.mdr_faults.specs.Declarations.{is_void, is_void_by, pointer_by, pointer_to}
use Rattle.mdr_sound.proofs.Layers.{sort_struct, sort_ptr, sort_void_ptr}
pub use Rattle.mdr_sound.proofs.Layers.{int_from as integer_is, ptr_from as pointer_is, void_ptr_from as void_pointer_is}
use Rattle.mdr_sound.specs.Declared.{IsSomeSort}

-- ---- a type by its first level

void_by : (t : Ty) (l : Ty-F Ty) → out-Ty t ≡ l → is_void_by l ≡ true → t ≡ type.Void
void_by t (Ty-F.Int k) e h = cc
void_by t Ty-F.Lock e h = cc
void_by t (Ty-F.Struct s) e h = cc
void_by t (Ty-F.Ptr u) e h = cc
void_by t Ty-F.VoidPtr e h = cc
void_by t (Ty-F.Fun ts) e h = cc
void_by t Ty-F.Void e h = sym (roll-out-Ty t) ∙ ap roll-Ty e ∙ type.rolls-Void

pub void_is : (t : Ty) → is_void t ≡ true → t ≡ type.Void
void_is t h = void_by t (out-Ty t) refl h

-- ---- sorts of the forms

pub function_sort_is : (n : ℕ) (ts : List Ty) → sort_of n (type.Fun ts) ≡ function_sort (map (sort_of n) ts)
unfolding sort_of
function_sort_is n ts = ap (sort_of n) (sym (type.rolls-Fun ts)) ∙ fold-roll-Ty Sort (sort_layer n) (Ty-F.Fun ts)

pub void_sort : (n : ℕ) → sort_of n type.Void ≡ Empty
unfolding sort_of
void_sort n = ap (sort_of n) (sym type.rolls-Void) ∙ fold-roll-Ty Sort (sort_layer n) Ty-F.Void

within : (s n : ℕ) (b : Bool) → nat_lt s n ≡ b → s < n → chosen b Aggregate Wrong ≡ Aggregate
within s n true e h = refl
within s n false e h = absurd (grind (arith, e, h))

pub struct_aggregate : (n s : ℕ) → s < n → sort_of n (type.Struct s) ≡ Aggregate
struct_aggregate n s h = sort_struct n s ∙ within s n (nat_lt s n) refl h

-- ---- scalars, and types of objects

pub not_wrong : IsObjectSort Wrong → ⊥
not_wrong (inl e) = cc
not_wrong (inr (inl e)) = cc
not_wrong (inr (inr e)) = cc

pub object_is_some : (s : Sort) → IsObjectSort s → IsSomeSort s
object_is_some Wrong h = not_wrong h
object_is_some Empty h = tt
object_is_some Locks h = tt
object_is_some Aggregate h = tt
object_is_some Scalar h = tt

pointer_scalar : (s : Sort) → IsSomeSort (pointer_sort s) → pointer_sort s ≡ Scalar
pointer_scalar Wrong h = absurd h
pointer_scalar Empty h = absurd h
pointer_scalar Locks h = refl
pointer_scalar Aggregate h = refl
pointer_scalar Scalar h = refl

chosen_scalar : (b : Bool) → IsSomeSort (chosen b Scalar Wrong) → chosen b Scalar Wrong ≡ Scalar
chosen_scalar true h = refl
chosen_scalar false h = absurd h

function_scalar : (ss : List Sort) → IsSomeSort (function_sort ss) → function_sort ss ≡ Scalar
function_scalar [] h = absurd h
function_scalar (r ∷ ps) h = chosen_scalar (is_result_sort r && list_all is_scalar_sort ps) h

scalar_by : (n : ℕ) (l : Ty-F Ty) → is_scalar_by l ≡ true → IsSomeSort (sort_layer n (map-Ty Ty Sort (sort_of n) l)) → sort_layer n (map-Ty Ty Sort (sort_of n) l) ≡ Scalar
scalar_by n (Ty-F.Int k) e h = refl
scalar_by n Ty-F.Lock e h = cc
scalar_by n (Ty-F.Struct s) e h = cc
scalar_by n (Ty-F.Ptr t) e h = pointer_scalar (sort_of n t) h
scalar_by n Ty-F.VoidPtr e h = refl
scalar_by n (Ty-F.Fun ts) e h = function_scalar (map (sort_of n) ts) h
scalar_by n Ty-F.Void e h = cc

-- a scalar type that is some type is of the sort of scalars
pub scalar_sort : (n : ℕ) (t : Ty) → is_scalar t ≡ true → IsSomeSort (sort_of n t) → sort_of n t ≡ Scalar
scalar_sort n t e h = sort_is n t ∙ scalar_by n (out-Ty t) e (subst IsSomeSort (sort_is n t) h)

chosen_object : (b : Bool) → IsSomeSort (chosen b Aggregate Wrong) → IsObjectSort (chosen b Aggregate Wrong)
chosen_object true h = inr (inl refl)
chosen_object false h = absurd h

object_by : (n : ℕ) (l : Ty-F Ty) → is_void_by l ≡ false → IsSomeSort (sort_layer n (map-Ty Ty Sort (sort_of n) l)) → IsObjectSort (sort_layer n (map-Ty Ty Sort (sort_of n) l))
object_by n (Ty-F.Int k) e h = inl refl
object_by n Ty-F.Lock e h = inr (inr refl)
object_by n (Ty-F.Struct s) e h = chosen_object (nat_lt s n) h
object_by n (Ty-F.Ptr t) e h = inl (pointer_scalar (sort_of n t) h)
object_by n Ty-F.VoidPtr e h = inl refl
object_by n (Ty-F.Fun ts) e h = inl (function_scalar (map (sort_of n) ts) h)
object_by n Ty-F.Void e h = cc

-- what isn't `void` is a type of objects
pub object_sort : (n : ℕ) (t : Ty) → is_void t ≡ false → IsSomeSort (sort_of n t) → IsObjectSort (sort_of n t)
object_sort n t e h = subst IsObjectSort (sym (sort_is n t)) (object_by n (out-Ty t) e (subst IsSomeSort (sort_is n t) h))

-- ---- pointers

pub pointer_object : (s : Sort) → IsObjectSort s → pointer_sort s ≡ Scalar
pointer_object s (inl e) = ap pointer_sort e
pointer_object s (inr (inl e)) = ap pointer_sort e
pointer_object s (inr (inr e)) = ap pointer_sort e

some_scalar : (n : ℕ) (t : Ty) → sort_of n t ≡ Scalar → IsSomeSort (sort_of n t)
some_scalar n t e = subst IsSomeSort (sym e) tt

to_object : (n : ℕ) (t : Ty) → IsObjectSort (sort_of n t) → IsSomeSort (sort_of n (type.Ptr t))
to_object n t h = some_scalar n (type.Ptr t) (sort_ptr n t ∙ pointer_object (sort_of n t) h)

pointer_some_by : (n : ℕ) (t : Ty) (l : Ty-F Ty) → (is_void_by l ≡ false → IsObjectSort (sort_of n t)) → IsSomeSort (sort_of n (pointer_by t l))
pointer_some_by n t (Ty-F.Int k) h = to_object n t (h refl)
pointer_some_by n t Ty-F.Lock h = to_object n t (h refl)
pointer_some_by n t (Ty-F.Struct s) h = to_object n t (h refl)
pointer_some_by n t (Ty-F.Ptr u) h = to_object n t (h refl)
pointer_some_by n t Ty-F.VoidPtr h = to_object n t (h refl)
pointer_some_by n t (Ty-F.Fun ts) h = to_object n t (h refl)
pointer_some_by n t Ty-F.Void h = some_scalar n type.VoidPtr (sort_void_ptr n)

pub pointer_some : (n : ℕ) (t : Ty) → IsSomeSort (sort_of n t) → IsSomeSort (sort_of n (pointer_to t))
pointer_some n t h = pointer_some_by n t (out-Ty t) (λ e. object_sort n t e h)

-- ---- results and parameters

or_cases : (a b : Bool) → (a || b) ≡ true → (a ≡ true) ⊎ (b ≡ true)
or_cases true b e = inl refl
or_cases false b e = inr e

result_by : (n : ℕ) (t : Ty) → IsSomeSort (sort_of n t) → (is_scalar t ≡ true) ⊎ (is_void t ≡ true) → (sort_of n t ≡ Scalar) ⊎ (t ≡ type.Void)
result_by n t h (inl e) = inl (scalar_sort n t e h)
result_by n t h (inr e) = inr (void_is t e)

-- a scalar, or `void`
pub result_sort : (n : ℕ) (t : Ty) → IsSomeSort (sort_of n t) → (is_scalar t || is_void t) ≡ true → (sort_of n t ≡ Scalar) ⊎ (t ≡ type.Void)
result_sort n t h e = result_by n t h (or_cases (is_scalar t) (is_void t) e)

pub is_result : (n : ℕ) (t : Ty) → (sort_of n t ≡ Scalar) ⊎ (t ≡ type.Void) → is_result_sort (sort_of n t) ≡ true
is_result n t (inl e) = ap is_result_sort e
is_result n t (inr e) = ap (λ (u : Ty). is_result_sort (sort_of n u)) e ∙ ap is_result_sort (void_sort n)

both_hold : (a b : Bool) → a ≡ true → b ≡ true → chosen (a && b) Scalar Wrong ≡ Scalar
both_hold a b e f = ap (λ (x : Bool). chosen (x && b) Scalar Wrong) e ∙ ap (λ (y : Bool). chosen y Scalar Wrong) f

-- a pointer to a function from its result and its parameters
pub handle_sort : (n : ℕ) (r : Ty) (ps : List Ty) → is_result_sort (sort_of n r) ≡ true → list_all is_scalar_sort (map (sort_of n) ps) ≡ true → sort_of n (type.Fun (r ∷ ps)) ≡ Scalar
handle_sort n r ps e f = function_sort_is n (r ∷ ps) ∙ both_hold (is_result_sort (sort_of n r)) (list_all is_scalar_sort (map (sort_of n) ps)) e f
