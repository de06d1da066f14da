-- A type that a plan's text names is one, and a pointer to it is a scalar (C99 6.2.5).
use Rattle.std.proofs.Common.{◌≡◌, ℕ, ◌<◌, Bool, true, false, ◌&&◌, ◌||◌, nat_lt, List, ◌∷◌, length, map, Some, IsTrue, refl, sym, ap, ◌∙◌, arith}
use Rattle.std.specs.List.{list_all}
use Rattle.std.proofs.lemmas.Option.{slice_get_within}
use Rattle.mdr_core.specs.declared.types.Ty.{Ty, out-Ty}
use Rattle.mdr_core.specs.declared.types.Ty.TheOpen.{Ty-F}
use Rattle.mdr_core.specs.declared.types.Ty.TheVariants as type
use Rattle.mdr_core.specs.Layout.{chosen}
use Rattle.mdr_core.specs.TypeText.{Text}
use Rattle.mdr_core.specs.Types.{Sort, Wrong, Empty, Locks, Aggregate, Scalar, pointer_sort, is_scalar_sort, is_result_sort, sort_of, is_scalar, is_scalar_by, is_pointer_by}
use Rattle.mdr_plan.specs.Naming.{Naming, struct_number}
use Rattle.mdr_plan.specs.TypeTexts.{Written, AreParams, is_void_by, is_result}
use Rattle.mdr_plan.specs.TypeTexts.Written.{OfInt, OfLock, OfStruct, OfVoid, OfPtr, OfFun}
use Rattle.mdr_plan.specs.TypeTexts.AreParams.{NoParams, Param}
use Rattle.mdr_plan.proofs.WrittenTexts.{struct_place}
use Rattle.mdr_type_table.proofs.Levels.{sort_at, pointer_scalar}

-- where there are n structs
pub record IsSome (n : ℕ) (t p : Ty) : Type 0 where
  pub formed : sort_of n t ≡ Wrong → ⊥
  pub pointer : sort_of n p ≡ Scalar

of_sort : (n : ℕ) (t : Ty) (s : Sort) → sort_of n t ≡ s → (s ≡ Wrong → ⊥) → pointer_sort s ≡ Scalar → IsSome n t (type.Ptr t)
of_sort n t s e some p = record {
  formed = λ w. some (sym e ∙ w);
  pointer = sort_at n (type.Ptr t) (Ty-F.Ptr t) (type.outs-Ptr t) ∙ ap pointer_sort e ∙ p;
}

empty_some : Empty ≡ Wrong → ⊥
empty_some e = absurd cc

locks_some : Locks ≡ Wrong → ⊥
locks_some e = absurd cc

aggregate_some : Aggregate ≡ Wrong → ⊥
aggregate_some e = absurd cc

scalar_some : Scalar ≡ Wrong → ⊥
scalar_some e = absurd cc

void_some : (n : ℕ) → IsSome n type.Void type.VoidPtr
void_some n = record {
  formed = λ w. empty_some (sym (sort_at n type.Void Ty-F.Void type.outs-Void) ∙ w);
  pointer = sort_at n type.VoidPtr Ty-F.VoidPtr type.outs-VoidPtr;
}

struct_inside : (n s : ℕ) → s < n → sort_of n (type.Struct s) ≡ Aggregate
struct_inside n s below = sort_at n (type.Struct s) (Ty-F.Struct s) (type.outs-Struct s) ∙ ap (λ b. chosen b Aggregate Wrong) less
  where
    less : nat_lt s n ≡ true
    less = grind (arith, below)

-- ---- scalars and results

scalar_by : (n : ℕ) (t : Ty) (l : Ty-F Ty) → out-Ty t ≡ l → is_scalar_by l ≡ true → (sort_of n t ≡ Wrong → ⊥) → sort_of n t ≡ Scalar
scalar_by n t (Ty-F.Int k) e s some = sort_at n t (Ty-F.Int k) e
scalar_by n t Ty-F.Lock e s some = absurd cc
scalar_by n t (Ty-F.Struct i) e s some = absurd cc
scalar_by n t (Ty-F.Ptr u) e s some = pointer_scalar n t (ap is_pointer_by e) some
scalar_by n t Ty-F.VoidPtr e s some = pointer_scalar n t (ap is_pointer_by e) some
scalar_by n t (Ty-F.Fun ts) e s some = pointer_scalar n t (ap is_pointer_by e) some
scalar_by n t Ty-F.Void e s some = absurd cc

scalar_is : (n : ℕ) (t : Ty) → IsTrue (is_scalar t) → (sort_of n t ≡ Wrong → ⊥) → is_scalar_sort (sort_of n t) ≡ true
scalar_is n t s some = ap is_scalar_sort (scalar_by n t (out-Ty t) refl s some)

result_by : (n : ℕ) (t : Ty) (l : Ty-F Ty) → out-Ty t ≡ l → (is_void_by l || is_scalar_by l) ≡ true → (sort_of n t ≡ Wrong → ⊥) → is_result_sort (sort_of n t) ≡ true
result_by n t (Ty-F.Int k) e r some = ap is_result_sort (scalar_by n t (Ty-F.Int k) e r some)
result_by n t Ty-F.Lock e r some = absurd cc
result_by n t (Ty-F.Struct i) e r some = absurd cc
result_by n t (Ty-F.Ptr u) e r some = ap is_result_sort (scalar_by n t (Ty-F.Ptr u) e r some)
result_by n t Ty-F.VoidPtr e r some = ap is_result_sort (scalar_by n t Ty-F.VoidPtr e r some)
result_by n t (Ty-F.Fun ts) e r some = ap is_result_sort (scalar_by n t (Ty-F.Fun ts) e r some)
result_by n t Ty-F.Void e r some = ap is_result_sort (sort_at n t Ty-F.Void e)

both_true : (a b : Bool) → a ≡ true → b ≡ true → (a && b) ≡ true
both_true true b e f = f
both_true false b e f = absurd cc

fun_some : (n : ℕ) (r : Ty) (ts : List Ty) → IsTrue (is_result r) → (sort_of n r ≡ Wrong → ⊥) → list_all is_scalar_sort (map (sort_of n) ts) ≡ true → IsSome n (type.Fun (r ∷ ts)) (type.Ptr (type.Fun (r ∷ ts)))
fun_some n r ts is some ps =
    of_sort n (type.Fun (r ∷ ts)) Scalar
    (sort_at n (type.Fun (r ∷ ts)) (Ty-F.Fun (r ∷ ts)) (type.outs-Fun (r ∷ ts)) ∙ ap (λ b. chosen b Scalar Wrong) (both_true (is_result_sort (sort_of n r)) (list_all is_scalar_sort (map (sort_of n) ts)) (result_by n r (out-Ty r) refl is some) ps))
    scalar_some refl

-- ---- what is written

-- names name the first n structs
record AreBelow (names : Naming) (n : ℕ) : Type 0 where
  below : (name : List ℕ) (s : ℕ) → names name ≡ Some s → s < n

mutual
  written_by : (names : Naming) (n : ℕ) (t p : Ty) (x : Text) → AreBelow names n → Written names t p x → IsSome n t p
  written_by names n _ _ _ low (OfInt k) = of_sort n (type.Int k) Scalar (sort_at n (type.Int k) (Ty-F.Int k) (type.outs-Int k)) scalar_some refl
  written_by names n _ _ _ low OfLock = of_sort n type.Lock Locks (sort_at n type.Lock Ty-F.Lock type.outs-Lock) locks_some refl
  written_by names n _ _ _ low (OfStruct s name e word) = of_sort n (type.Struct s) Aggregate (struct_inside n s (low.below name s e)) aggregate_some refl
  written_by names n _ _ _ low OfVoid = void_some n
  written_by names n _ _ _ low (OfPtr t p x w) = of_sort n p Scalar (written_by names n t p x low w).pointer scalar_some refl
  written_by names n _ _ _ low (OfFun r p ts x xs w is ps) = fun_some n r ts is (written_by names n r p x low w).formed (params_scalar names n ts xs low ps)

  params_scalar : (names : Naming) (n : ℕ) (ts : List Ty) (xs : List Text) → AreBelow names n → AreParams names ts xs → list_all is_scalar_sort (map (sort_of n) ts) ≡ true
  params_scalar names n _ _ low NoParams = refl
  params_scalar names n _ _ low (Param t p ts x xs w is ps) = both_true (is_scalar_sort (sort_of n t)) (list_all is_scalar_sort (map (sort_of n) ts)) (scalar_is n t is (written_by names n t p x low w).formed) (params_scalar names n ts xs low ps)

pub written_some : (names : List (List ℕ)) (t p : Ty) (x : Text) → Written (struct_number names) t p x → IsSome (length names) t p
written_some names t p x w = written_by (struct_number names) (length names) t p x (record { below = λ name s e. slice_get_within names s name (struct_place names name s e) }) w
