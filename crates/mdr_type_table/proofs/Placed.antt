-- Where a type stands in a table: it is a kind, the lock or a struct, and its number is the type's own, or it is one of the pointers behind them.
use Rattle.std.proofs.Common.{ℕ, zero, suc, ◌≡◌, ◌+◌, ◌<◌, inl, inr, refl, Bool, true, false, nat_lt, List, [], ◌∷◌, ◌++◌, length, Option, Some, None, slice_get, IsTrue, ap, sym, ◌∙◌, subst, arith}
use Rattle.std.proofs.lemmas.List.{length-append}
use Rattle.mdr_core.specs.declared.kind.Kind.{Kind}
use Rattle.mdr_core.specs.declared.kind.Kind.TheVariants.{U8, U16, U32, U64, S8, S16, S32, S64}
use Rattle.mdr_core.specs.declared.types.Ty.{Ty, out-Ty}
use Rattle.mdr_core.specs.declared.types.Ty.TheOpen.{Ty-F}
use Rattle.mdr_core.specs.declared.types.Ty.TheVariants as type
use Rattle.mdr_core.specs.Kinds.{kind_number}
use Rattle.mdr_core.specs.Layout.{chosen}
use Rattle.mdr_core.specs.Sound.{IsObjectSort}
use Rattle.mdr_core.specs.Types.{Wrong, Aggregate, first_types, sort_of, is_pointer_by}
use Rattle.mdr_check.specs.declared.table.TextedType.{TextedType}
use Rattle.mdr_check.specs.Tables.{struct_types, types_alone}
use Rattle.mdr_type_table.proofs.Levels.{sort_at}

-- the number that a type has in each table, where it has one
abbrev pub first_number : Ty-F Ty → Option ℕ
first_number (Ty-F.Int k) = Some (kind_number k)
first_number Ty-F.Lock = Some 8
first_number (Ty-F.Struct s) = Some (9 + s)
first_number (Ty-F.Ptr t) = None
first_number Ty-F.VoidPtr = None
first_number (Ty-F.Fun ts) = None
first_number Ty-F.Void = None

-- a kind, the lock or a struct, at its number
pub record IsFirst (n i : ℕ) (t : Ty) : Type 0 where
  pub number : first_number (out-Ty t) ≡ Some i
  pub sort : IsObjectSort (sort_of n t)
  pub low : i < 9 + n

pub data Place (n : ℕ) (pointers : List TextedType) (i : ℕ) (t : Ty) : Type 0 where
  First : IsFirst n i t → Place n pointers i t
  Later : (j : ℕ) (x : TextedType) → slice_get pointers j ≡ Some x → x.ty ≡ t → i ≡ 9 + n + j → Place n pointers i t

-- ---- two lists in a row

data Side (xs ys : List Ty) (i : ℕ) (t : Ty) : Type 0 where
  Before : slice_get xs i ≡ Some t → Side xs ys i t
  Behind : (j : ℕ) → i ≡ length xs + j → slice_get ys j ≡ Some t → Side xs ys i t

side_more : (z : Ty) (zs ys : List Ty) (i : ℕ) (t : Ty) → Side zs ys i t → Side (z ∷ zs) ys (suc i) t
side_more z zs ys i t (Before e) = Before e
side_more z zs ys i t (Behind j l e) = Behind j (omega (arith, l)) e

side : (xs ys : List Ty) (i : ℕ) (t : Ty) → slice_get (xs ++ ys) i ≡ Some t → Side xs ys i t
side [] ys i t e = Behind i (omega arith) e
side (z ∷ zs) ys zero t e = Before e
side (z ∷ zs) ys (suc i) t e = side_more z zs ys i t (side zs ys i t e)

-- ---- kinds and the lock

kind_first : (n : ℕ) (k : Kind) → kind_number k < 9 → IsFirst n (kind_number k) (type.Int k)
kind_first n k low = record {
  number = ap first_number (type.outs-Int k);
  sort = inl (sort_at n (type.Int k) (Ty-F.Int k) (type.outs-Int k));
  low = omega (arith, low);
}

lock_first : (n : ℕ) → IsFirst n 8 type.Lock
lock_first n = record {
  number = ap first_number type.outs-Lock;
  sort = inr (inr (sort_at n type.Lock Ty-F.Lock type.outs-Lock));
  low = omega arith;
}

in_first : (n i : ℕ) (t : Ty) → slice_get first_types i ≡ Some t → IsFirst n i t
in_first n zero t e = let same : type.Int U8 ≡ t = cc in subst (IsFirst n 0) same (kind_first n U8 (omega arith))
in_first n (suc zero) t e = let same : type.Int U16 ≡ t = cc in subst (IsFirst n 1) same (kind_first n U16 (omega arith))
in_first n (suc (suc zero)) t e = let same : type.Int U32 ≡ t = cc in subst (IsFirst n 2) same (kind_first n U32 (omega arith))
in_first n (suc (suc (suc zero))) t e = let same : type.Int U64 ≡ t = cc in subst (IsFirst n 3) same (kind_first n U64 (omega arith))
in_first n (suc (suc (suc (suc zero)))) t e = let same : type.Int S8 ≡ t = cc in subst (IsFirst n 4) same (kind_first n S8 (omega arith))
in_first n (suc (suc (suc (suc (suc zero))))) t e = let same : type.Int S16 ≡ t = cc in subst (IsFirst n 5) same (kind_first n S16 (omega arith))
in_first n (suc (suc (suc (suc (suc (suc zero)))))) t e = let same : type.Int S32 ≡ t = cc in subst (IsFirst n 6) same (kind_first n S32 (omega arith))
in_first n (suc (suc (suc (suc (suc (suc (suc zero))))))) t e = let same : type.Int S64 ≡ t = cc in subst (IsFirst n 7) same (kind_first n S64 (omega arith))
in_first n (suc (suc (suc (suc (suc (suc (suc (suc zero)))))))) t e = let same : type.Lock ≡ t = cc in subst (IsFirst n 8) same (lock_first n)
in_first n (suc (suc (suc (suc (suc (suc (suc (suc (suc i))))))))) t e = absurd cc

-- ---- structs

pub struct_count : (n : ℕ) → length (struct_types n) ≡ n
unfolding struct_types
struct_count zero = refl
struct_count (suc n) =
    let parts = length-append (struct_types n) (type.Struct n ∷ []) in
    let below = struct_count n in
    omega (arith, parts, below)

-- a struct below n
record IsStruct (n s : ℕ) (t : Ty) : Type 0 where
  below : s < n
  is : type.Struct s ≡ t

struct_last : (n j s : ℕ) (t : Ty) → s ≡ length (struct_types n) + j → slice_get (type.Struct n ∷ []) j ≡ Some t → IsStruct (suc n) s t
struct_last n zero s t l e =
    let count = struct_count n in
    let at : n ≡ s = omega (arith, l, count) in
    let same : type.Struct n ≡ t = cc in
    record { below = omega (arith, at); is = ap type.Struct (sym at) ∙ same }
struct_last n (suc j) s t l e = absurd cc

struct_side : (n s : ℕ) (t : Ty) → (slice_get (struct_types n) s ≡ Some t → IsStruct n s t) → Side (struct_types n) (type.Struct n ∷ []) s t → IsStruct (suc n) s t
struct_side n s t lower (Before e) = let h = lower e in let below : s < n = h.below in record { below = omega (arith, below); is = h.is }
struct_side n s t lower (Behind j l e) = struct_last n j s t l e

in_structs : (n s : ℕ) (t : Ty) → slice_get (struct_types n) s ≡ Some t → IsStruct n s t
unfolding struct_types
in_structs zero s t e = absurd cc
in_structs (suc n) s t e = struct_side n s t (in_structs n s t) (side (struct_types n) (type.Struct n ∷ []) s t e)

struct_sort : (b : Bool) → b ≡ true → IsObjectSort (chosen b Aggregate Wrong)
struct_sort true e = inr (inl refl)
struct_sort false e = absurd cc

struct_first : (n s i : ℕ) (t : Ty) → IsStruct n s t → i ≡ 9 + s → IsFirst n i t
struct_first n s i t h l =
    let below : s < n = h.below in
    let less : nat_lt s n ≡ true = grind (arith, below) in
    let sort = subst IsObjectSort (sym (sort_at n (type.Struct s) (Ty-F.Struct s) (type.outs-Struct s))) (struct_sort (nat_lt s n) less) in
    subst (IsFirst n i) h.is (record { number = ap first_number (type.outs-Struct s) ∙ ap Some (sym l); sort = sort; low = omega (arith, l, below) })

-- ---- the whole table

alone_at : (n : ℕ) (pointers : List TextedType) (j i : ℕ) (t : Ty) → slice_get (types_alone pointers) j ≡ Some t → i ≡ 9 + n + j → Place n pointers i t
alone_at n pointers j i t e l = let x = from pointers j e in Later j x.0 x.1 x.2 l
  where
    from : (ps : List TextedType) (k : ℕ) → slice_get (types_alone ps) k ≡ Some t → (x : TextedType) × (slice_get ps k ≡ Some x) × (x.ty ≡ t)
    from [] k f = absurd cc
    from (p ∷ ps) zero f = (p, refl, cc)
    from (p ∷ ps) (suc k) f = from ps k f

front_place : (n : ℕ) (pointers : List TextedType) (i : ℕ) (t : Ty) → Side first_types (struct_types n) i t → Place n pointers i t
front_place n pointers i t (Before e) = First (in_first n i t e)
front_place n pointers i t (Behind s l e) = First (struct_first n s i t (in_structs n s t e) l)

side_place : (n : ℕ) (pointers : List TextedType) (i : ℕ) (t : Ty) → Side (first_types ++ struct_types n) (types_alone pointers) i t → Place n pointers i t
side_place n pointers i t (Before e) = front_place n pointers i t (side first_types (struct_types n) i t e)
side_place n pointers i t (Behind j l e) =
    let count = struct_count n in
    alone_at n pointers j i t e (omega (arith, l, count, length-append first_types (struct_types n)))

pub place_in : (n : ℕ) (pointers : List TextedType) (i : ℕ) (t : Ty) → slice_get ((first_types ++ struct_types n) ++ types_alone pointers) i ≡ Some t → Place n pointers i t
place_in n pointers i t e = side_place n pointers i t (side (first_types ++ struct_types n) (types_alone pointers) i t e)

-- and back: a pointer stands there
behind_front : (xs ys : List Ty) (i j : ℕ) (t : Ty) → i ≡ length xs + j → slice_get ys j ≡ Some t → slice_get (xs ++ ys) i ≡ Some t
behind_front [] ys i j t l e = let same : i ≡ j = omega (arith, l) in subst (λ (k : ℕ). slice_get ys k ≡ Some t) (sym same) e
behind_front (x ∷ xs) ys zero j t l e = absurd (omega (arith, l))
behind_front (x ∷ xs) ys (suc i) j t l e = behind_front xs ys i j t (omega (arith, l)) e

alone_get : (ps : List TextedType) (j : ℕ) (x : TextedType) → slice_get ps j ≡ Some x → slice_get (types_alone ps) j ≡ Some x.ty
alone_get [] j x e = absurd cc
alone_get (p ∷ ps) zero x e = let same : p ≡ x = cc in ap (λ (y : TextedType). Some y.ty) same
alone_get (p ∷ ps) (suc j) x e = alone_get ps j x e

pub later_in : (n : ℕ) (pointers : List TextedType) (j : ℕ) (x : TextedType) → slice_get pointers j ≡ Some x → slice_get ((first_types ++ struct_types n) ++ types_alone pointers) (9 + n + j) ≡ Some x.ty
later_in n pointers j x e =
    let count = struct_count n in
    behind_front (first_types ++ struct_types n) (types_alone pointers) (9 + n + j) j x.ty (omega (arith, count, length-append first_types (struct_types n))) (alone_get pointers j x e)

-- no pointer has a number of its own
pub unnumbered : (l : Ty-F Ty) → IsTrue (is_pointer_by l) → first_number l ≡ None
unnumbered (Ty-F.Int k) p = absurd cc
unnumbered Ty-F.Lock p = absurd cc
unnumbered (Ty-F.Struct s) p = absurd cc
unnumbered (Ty-F.Ptr t) p = refl
unnumbered Ty-F.VoidPtr p = refl
unnumbered (Ty-F.Fun ts) p = refl
unnumbered Ty-F.Void p = absurd cc
