-- The numbers of kinds, the lock and structs.
use Rattle.std.proofs.Common.{ℕ, zero, suc, ◌≡◌, ◌+◌, ◌<◌, ◌≤◌, ◌⊎◌, inl, inr, refl, Bool, true, false, nat_lt, List, [], ◌∷◌, ◌++◌, length, Some, slice_get, ap, arith}
use Rattle.std.proofs.Math.Path.{sym, ◌∙◌}
use Rattle.std.proofs.lemmas.List.{length-append}
use Rattle.mdr_core.specs.declared.kind.Kind.{Kind}
use Rattle.mdr_core.specs.declared.kind.Kind.TheVariants.{U8, U16, U32, U64, S8, S16, S32, S64}
use Rattle.mdr_core.specs.declared.program.StructDef.{StructDef}
use Rattle.mdr_core.specs.declared.types.Ty.{Ty}
use Rattle.mdr_core.specs.declared.types.Ty.TheVariants as type
use Rattle.mdr_core.specs.Kinds.{kind_number}
use Rattle.mdr_core.specs.Types.{first_types}
use Rattle.mdr_check.specs.Tables.{struct_types, types_alone, with_pointers, type_table}
use Rattle.mdr_program.specs.Orders.{HasFirstNumbers, TablesHaveFirstNumbers}

how_many : (n : ℕ) → length (struct_types n) ≡ n
unfolding struct_types
how_many zero = refl
how_many (suc n) =
    let parts = length-append (struct_types n) (type.Struct n ∷ []) in
    let below = how_many n in
    omega (arith, parts, below)

-- an item stands behind others
in_front : {A : Type 0} (xs ys : List A) (i : ℕ) (x : A) → slice_get xs i ≡ Some x → slice_get (xs ++ ys) i ≡ Some x
in_front [] ys i x e = cc
in_front (z ∷ zs) ys zero x e = e
in_front (z ∷ zs) ys (suc i) x e = in_front zs ys i x e

at_seam : {A : Type 0} (xs : List A) (y : A) (ys : List A) (i : ℕ) → length xs ≡ i → slice_get (xs ++ y ∷ ys) i ≡ Some y
at_seam [] y ys i e = ap (slice_get (y ∷ ys)) (sym e)
at_seam (x ∷ xs) y ys i e = ap (slice_get (x ∷ (xs ++ y ∷ ys))) (sym e) ∙ at_seam xs y ys (length xs) refl

below_by : (s n : ℕ) (t : Bool) → nat_lt s n ≡ t → s < suc n → (s < n) ⊎ (n ≡ s)
below_by s n true e h = inl (grind (arith, e))
below_by s n false e h = let past : n ≤ s = grind (arith, e) in inr (omega (arith, h, past))

struct_by : (n s : ℕ) → (s < n → slice_get (struct_types n) s ≡ Some (type.Struct s)) → (s < n) ⊎ (n ≡ s) → slice_get (struct_types n ++ type.Struct n ∷ []) s ≡ Some (type.Struct s)
struct_by n s lower (inl below) = in_front (struct_types n) (type.Struct n ∷ []) s (type.Struct s) (lower below)
struct_by n s lower (inr last) = at_seam (struct_types n) (type.Struct n) [] s (how_many n ∙ last) ∙ ap (λ (k : ℕ). Some (type.Struct k)) last

struct_at : (n s : ℕ) → s < n → slice_get (struct_types n) s ≡ Some (type.Struct s)
unfolding struct_types
struct_at zero s h = absurd (omega (arith, h))
struct_at (suc n) s h = struct_by n s (struct_at n s) (below_by s n (nat_lt s n) refl h)

nine_more : (s : ℕ) → 9 + s ≡ suc (suc (suc (suc (suc (suc (suc (suc (suc s))))))))
nine_more s = omega arith

kind_at : (k : Kind) (xs ys : List Ty) → slice_get ((first_types ++ xs) ++ ys) (kind_number k) ≡ Some (type.Int k)
kind_at U8 xs ys = refl
kind_at U16 xs ys = refl
kind_at U32 xs ys = refl
kind_at U64 xs ys = refl
kind_at S8 xs ys = refl
kind_at S16 xs ys = refl
kind_at S32 xs ys = refl
kind_at S64 xs ys = refl

-- a table that begins so has these numbers, whatever pointers stand behind
pub first_numbers : (structs : List StructDef) (pointers : List Ty) → HasFirstNumbers structs ((first_types ++ struct_types (length structs)) ++ pointers)
first_numbers structs pointers = record {
  kinds = λ k. kind_at k (struct_types (length structs)) pointers;
  lock = refl;
  numbers = λ s h.
      ap (slice_get ((first_types ++ struct_types (length structs)) ++ pointers)) (nine_more s)
      ∙ in_front (struct_types (length structs)) pointers s (type.Struct s) (struct_at (length structs) s h);
}

pub tables_have_first_numbers : TablesHaveFirstNumbers
unfolding type_table
tables_have_first_numbers structs occurring = first_numbers structs (types_alone (with_pointers structs [] occurring))
