-- for proofs
-- Plans as they are read: by such a plan the text of a user half is judged.
use Rattle.std.specs.Prelude.{◌≡◌, ℕ, List, [], ◌∷◌, ◌++◌, length, Some, slice_get, IsTrue}
use Rattle.mdr_core.specs.declared.plan.Half.TheVariants.{Kernel}
use Rattle.mdr_core.specs.declared.plan.Key.{Key}
use Rattle.mdr_core.specs.declared.plan.Plan.{Plan}
use Rattle.mdr_core.specs.declared.types.Ty.{Ty}
use Rattle.mdr_core.specs.Types.{Scalar, first_types, is_pointer, sort_of}
use Rattle.mdr_check.specs.Tables.{struct_types}

-- a type is a pointer where there are so many structs (C99 6.2.5, paragraph 20)
pub record IsPointer (structs : ℕ) (t : Ty) : Type 0 where
  pub points : IsTrue (is_pointer t)
  pub formed : sort_of structs t ≡ Scalar

abbrev pub ArePointers : (structs : ℕ) → List Ty → Type 0
ArePointers structs [] = Unit {0}
ArePointers structs (t ∷ ts) = IsPointer structs t × ArePointers structs ts

-- the table is the kinds, the lock and the structs, and behind them pointers. No type stands there twice
pub record IsPlanTable (types : List Ty) : Type 0 where
  pub structs : ℕ
  pub pointers : List Ty
  pub parts : types ≡ (first_types ++ struct_types structs) ++ pointers
  pub are : ArePointers structs pointers
  pub once : (i j : ℕ) (t : Ty) → slice_get types i ≡ Some t → slice_get types j ≡ Some t → i ≡ j

-- each list has one item for each function, and a function of the kernel half has no keys
pub record IsPlanned (plan : Plan) : Type 0 where
  pub table : IsPlanTable plan.types
  pub halves : length plan.halves ≡ length plan.names
  pub roots : length plan.roots ≡ length plan.names
  pub down : length plan.down ≡ length plan.names
  pub lists : length plan.keys ≡ length plan.names
  pub kernel : (f : ℕ) (ks : List Key) → slice_get plan.halves f ≡ Some Kernel → slice_get plan.keys f ≡ Some ks → ks ≡ []
