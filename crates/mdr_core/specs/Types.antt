-- believed
-- Which types there are, and of what sort each is (C99 6.2.5). A struct is named by its number.
use Rattle.std.specs.Prelude.{◌≡◌, ℕ, ◌<◌, Bool, true, false, ◌&&◌, nat_lt, List, [], ◌∷◌, Some, slice_get}
use Rattle.std.specs.List.{list_all}
use Rattle.mdr_core.specs.declared.kind.Kind.TheVariants.{U8, U16, U32, U64, S8, S16, S32, S64}
use Rattle.mdr_core.specs.declared.types.Ty.{Ty, out-Ty}
use Rattle.mdr_core.specs.declared.types.Ty.TheOpen.{Ty-F}
use Rattle.mdr_core.specs.declared.types.Ty.TheFolds.{fold-Ty}
use Rattle.mdr_core.specs.declared.types.Ty.TheVariants as type
use Rattle.mdr_core.specs.declared.program.Program.{Program}
use Rattle.mdr_core.specs.Layout.{Leaf, chosen, cells}

-- what a type is: none, `void`, a lock, a struct, or a scalar (integers, pointers to objects and to functions)
pub data Sort : Type 0 where
  Wrong : Sort
  Empty : Sort
  Locks : Sort
  Aggregate : Sort
  Scalar : Sort

-- a pointer to an object; one to `void` is written apart (6.2.5, paragraphs 20 and 26)
abbrev pub pointer_sort : Sort → Sort
pointer_sort Wrong = Wrong
pointer_sort Empty = Wrong
pointer_sort Locks = Scalar
pointer_sort Aggregate = Scalar
pointer_sort Scalar = Scalar

abbrev pub is_scalar_sort : Sort → Bool
is_scalar_sort Wrong = false
is_scalar_sort Empty = false
is_scalar_sort Locks = false
is_scalar_sort Aggregate = false
is_scalar_sort Scalar = true

-- what a function may give: nothing or a scalar
abbrev pub is_result_sort : Sort → Bool
is_result_sort Wrong = false
is_result_sort Empty = true
is_result_sort Locks = false
is_result_sort Aggregate = false
is_result_sort Scalar = true

-- a pointer to a function, from its result and its parameters, which are scalars
abbrev pub function_sort : List Sort → Sort
function_sort [] = Wrong
function_sort (r ∷ ps) = chosen (is_result_sort r && list_all is_scalar_sort ps) Scalar Wrong

abbrev pub sort_layer : ℕ → Ty-F Sort → Sort
sort_layer n (Ty-F.Int k) = Scalar
sort_layer n Ty-F.Lock = Locks
sort_layer n (Ty-F.Struct s) = chosen (nat_lt s n) Aggregate Wrong
sort_layer n (Ty-F.Ptr t) = pointer_sort t
sort_layer n Ty-F.VoidPtr = Scalar
sort_layer n (Ty-F.Fun ts) = function_sort ts
sort_layer n Ty-F.Void = Empty

-- the sort of a type where there are n structs
unfoldable pub sort_of : ℕ → Ty → Sort
sort_of n = fold-Ty Sort (sort_layer n)

abbrev pub is_scalar_by : Ty-F Ty → Bool
is_scalar_by (Ty-F.Int k) = true
is_scalar_by Ty-F.Lock = false
is_scalar_by (Ty-F.Struct s) = false
is_scalar_by (Ty-F.Ptr t) = true
is_scalar_by Ty-F.VoidPtr = true
is_scalar_by (Ty-F.Fun ts) = true
is_scalar_by Ty-F.Void = false

-- an arithmetic or pointer type (6.2.5, paragraph 21)
abbrev pub is_scalar : Ty → Bool
is_scalar ty = is_scalar_by (out-Ty ty)

abbrev pub is_pointer_by : Ty-F Ty → Bool
is_pointer_by (Ty-F.Int k) = false
is_pointer_by Ty-F.Lock = false
is_pointer_by (Ty-F.Struct s) = false
is_pointer_by (Ty-F.Ptr t) = true
is_pointer_by Ty-F.VoidPtr = true
is_pointer_by (Ty-F.Fun ts) = true
is_pointer_by Ty-F.Void = false

-- a pointer to an object, to `void` or to a function
abbrev pub is_pointer : Ty → Bool
is_pointer ty = is_pointer_by (out-Ty ty)

abbrev pub is_object_pointer_by : Ty-F Ty → Bool
is_object_pointer_by (Ty-F.Int k) = false
is_object_pointer_by Ty-F.Lock = false
is_object_pointer_by (Ty-F.Struct s) = false
is_object_pointer_by (Ty-F.Ptr t) = true
is_object_pointer_by Ty-F.VoidPtr = true
is_object_pointer_by (Ty-F.Fun ts) = false
is_object_pointer_by Ty-F.Void = false

-- a pointer to an object or to `void`
abbrev pub is_object_pointer : Ty → Bool
is_object_pointer ty = is_object_pointer_by (out-Ty ty)

-- a value of the one type may be assigned to an object of the other (6.5.16.1, 6.3.2.3): integers convert, pointers to objects convert to and from `void *`
abbrev pub becomes_by : (from to : Ty) → Ty-F Ty → Ty-F Ty → Type 0
becomes_by from to (Ty-F.Int k) (Ty-F.Int l) = Unit {0}
becomes_by from to (Ty-F.Ptr t) Ty-F.VoidPtr = Unit {0}
becomes_by from to Ty-F.VoidPtr (Ty-F.Ptr t) = Unit {0}
becomes_by from to f t = from ≡ to

abbrev pub Becomes : (from to : Ty) → Type 0
Becomes from to = becomes_by from to (out-Ty from) (out-Ty to)

-- no cell of the type is a lock
pub record HasNoLock (program : Program) (ty : Ty) : Type 0 where
  pub none : (i : ℕ) (leaf : Leaf) → slice_get (cells program ty) i ≡ Some leaf → leaf.type ≡ type.Lock → ⊥

-- the type has a number in the type table
pub record HasNumber (program : Program) (ty : Ty) : Type 0 where
  pub number : ℕ
  pub fits : number < 4294967296
  pub names : slice_get program.types number ≡ Some ty

-- the first types of each type table
abbrev pub first_types : List Ty
first_types = type.Int U8 ∷ type.Int U16 ∷ type.Int U32 ∷ type.Int U64 ∷ type.Int S8 ∷ type.Int S16 ∷ type.Int S32 ∷ type.Int S64 ∷ type.Lock ∷ []
