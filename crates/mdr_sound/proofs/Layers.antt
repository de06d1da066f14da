-- A type from one level of it, and its sort.
use Rattle.std.specs.Prelude.{◌≡◌, ℕ, Bool, true, false, nat_lt, List, [], ◌∷◌, map, IsTrue}
use Rattle.std.proofs.Common.{inl, inr, refl, ap, sym, ◌∙◌, subst}
use Rattle.mdr_core.specs.declared.kind.Kind.{Kind}
use Rattle.mdr_core.specs.declared.types.Ty.{Ty, out-Ty, roll-Ty, roll-out-Ty}
use Rattle.mdr_core.specs.declared.types.Ty.TheFolds.{map-Ty}
use Rattle.mdr_core.specs.declared.types.Ty.TheOpen.{Ty-F}
use Rattle.mdr_core.specs.declared.types.Ty.TheVariants as type
use Rattle.mdr_core.specs.Layout.{chosen}
use Rattle.mdr_core.specs.Sound.{IsObjectSort}
use Rattle.mdr_core.specs.Types.{function_sort, Sort, Wrong, Empty, Locks, Aggregate, Scalar, sort_of, sort_layer, pointer_sort, is_scalar, is_scalar_by}
use Rattle.mdr_core.proofs.Laid.{sort_is}

-- ---- a type from its level

pub int_from : (t : Ty) (k : Kind) → out-Ty t ≡ Ty-F.Int k → t ≡ type.Int k
int_from t k e = sym (roll-out-Ty t) ∙ ap roll-Ty e ∙ type.rolls-Int k

pub struct_from : (t : Ty) (s : ℕ) → out-Ty t ≡ Ty-F.Struct s → t ≡ type.Struct s
struct_from t s e = sym (roll-out-Ty t) ∙ ap roll-Ty e ∙ type.rolls-Struct s

pub ptr_from : (t u : Ty) → out-Ty t ≡ Ty-F.Ptr u → t ≡ type.Ptr u
ptr_from t u e = sym (roll-out-Ty t) ∙ ap roll-Ty e ∙ type.rolls-Ptr u

pub void_ptr_from : (t : Ty) → out-Ty t ≡ Ty-F.VoidPtr → t ≡ type.VoidPtr
void_ptr_from t e = sym (roll-out-Ty t) ∙ ap roll-Ty e ∙ type.rolls-VoidPtr

pub fun_from : (t : Ty) (ts : List Ty) → out-Ty t ≡ Ty-F.Fun ts → t ≡ type.Fun ts
fun_from t ts e = sym (roll-out-Ty t) ∙ ap roll-Ty e ∙ type.rolls-Fun ts

-- ---- sorts

-- the sort of a type whose level is known
pub sort_at : (n : ℕ) (t : Ty) (l : Ty-F Ty) → out-Ty t ≡ l → sort_of n t ≡ sort_layer n (map-Ty Ty Sort (sort_of n) l)
sort_at n t l e = sort_is n t ∙ ap (λ l. sort_layer n (map-Ty Ty Sort (sort_of n) l)) e

pub sort_int : (n : ℕ) (k : Kind) → sort_of n (type.Int k) ≡ Scalar
sort_int n k = sort_at n (type.Int k) (Ty-F.Int k) (type.outs-Int k)

pub sort_lock : (n : ℕ) → sort_of n type.Lock ≡ Locks
sort_lock n = sort_at n type.Lock Ty-F.Lock type.outs-Lock

pub sort_struct : (n s : ℕ) → sort_of n (type.Struct s) ≡ chosen (nat_lt s n) Aggregate Wrong
sort_struct n s = sort_at n (type.Struct s) (Ty-F.Struct s) (type.outs-Struct s)

pub sort_ptr : (n : ℕ) (t : Ty) → sort_of n (type.Ptr t) ≡ pointer_sort (sort_of n t)
sort_ptr n t = sort_at n (type.Ptr t) (Ty-F.Ptr t) (type.outs-Ptr t)

pub sort_void_ptr : (n : ℕ) → sort_of n type.VoidPtr ≡ Scalar
sort_void_ptr n = sort_at n type.VoidPtr Ty-F.VoidPtr type.outs-VoidPtr

-- ---- what pointers point to

not_object : {C : Type 0} → IsObjectSort Wrong → C
not_object (inl e) = absurd cc
not_object (inr (inl e)) = absurd cc
not_object (inr (inr e)) = absurd cc

-- a pointer that is formed points to an object
pointed_sort : (s : Sort) → IsObjectSort (pointer_sort s) → IsObjectSort s
pointed_sort Wrong h = not_object h
pointed_sort Empty h = not_object h
pointed_sort Locks h = inr (inr refl)
pointed_sort Aggregate h = inr (inl refl)
pointed_sort Scalar h = inl refl

pub pointed_formed : (n : ℕ) (t : Ty) → IsObjectSort (sort_of n (type.Ptr t)) → IsObjectSort (sort_of n t)
pointed_formed n t h = pointed_sort (sort_of n t) (subst IsObjectSort (sort_ptr n t) h)

-- and a pointer to an object is a scalar
pointer_sort_formed : (s : Sort) → IsObjectSort s → pointer_sort s ≡ Scalar
pointer_sort_formed Wrong h = not_object h
pointer_sort_formed Empty (inl e) = absurd cc
pointer_sort_formed Empty (inr (inl e)) = absurd cc
pointer_sort_formed Empty (inr (inr e)) = absurd cc
pointer_sort_formed Locks h = refl
pointer_sort_formed Aggregate h = refl
pointer_sort_formed Scalar h = refl

pub pointer_formed : (n : ℕ) (t : Ty) → IsObjectSort (sort_of n t) → sort_of n (type.Ptr t) ≡ Scalar
pointer_formed n t h = sort_ptr n t ∙ pointer_sort_formed (sort_of n t) h

-- a pointer to a function that is formed
chosen_sort : (b : Bool) → IsObjectSort (chosen b Scalar Wrong) → chosen b Scalar Wrong ≡ Scalar
chosen_sort true h = refl
chosen_sort false h = not_object h

function_formed_by : (ss : List Sort) → IsObjectSort (function_sort ss) → function_sort ss ≡ Scalar
function_formed_by [] h = not_object h
function_formed_by (r ∷ ps) h = chosen_sort _ h

pub function_formed : (n : ℕ) (ts : List Ty) → IsObjectSort (sort_of n (type.Fun ts)) → sort_of n (type.Fun ts) ≡ Scalar
function_formed n ts h =
    let is = sort_at n (type.Fun ts) (Ty-F.Fun ts) (type.outs-Fun ts) in
    is ∙ function_formed_by (map (sort_of n) ts) (subst IsObjectSort is h)

-- ---- scalars

pub int_scalar : (k : Kind) → IsTrue (is_scalar (type.Int k))
int_scalar k = subst (λ l. IsTrue (is_scalar_by l)) (sym (type.outs-Int k)) refl

pub ptr_scalar : (t : Ty) → IsTrue (is_scalar (type.Ptr t))
ptr_scalar t = subst (λ l. IsTrue (is_scalar_by l)) (sym (type.outs-Ptr t)) refl

pub void_ptr_scalar : IsTrue (is_scalar type.VoidPtr)
void_ptr_scalar = subst (λ l. IsTrue (is_scalar_by l)) (sym type.outs-VoidPtr) refl

pub fun_scalar : (ts : List Ty) → IsTrue (is_scalar (type.Fun ts))
fun_scalar ts = subst (λ l. IsTrue (is_scalar_by l)) (sym (type.outs-Fun ts)) refl
