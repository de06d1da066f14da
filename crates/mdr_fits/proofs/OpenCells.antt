-- Cells that hold no lock, by their types.
use Rattle.std.proofs.Common.{◌≡◌, ℕ, zero, suc, ◌+◌, ◌<◌, ◌≤◌, Bool, true, false, ◌&&◌, List, [], ◌∷◌, ◌++◌, length, replicate, drop, get_or, slice_get, Option, Some, None, refl, sym, ◌∙◌, ap, subst, arith}
use Rattle.std.specs.Prelude.{not}
use Rattle.std.specs.List.{list_all}
use Rattle.mdr_copy.proofs.Passing.{known_row, scalar_row, types_alike, types_append, unknown_row, void_row}
use Rattle.mdr_copy.specs.CellTypes.{is_void, is_void_by, types_of}
use Rattle.mdr_core.proofs.Lying.{fields_more, fields_over}
use Rattle.mdr_core.specs.declared.program.Field.{Field}
use Rattle.mdr_core.specs.declared.program.Program.{Program}
use Rattle.mdr_core.specs.declared.program.StructDef.{StructDef}
use Rattle.mdr_core.specs.declared.types.Ty.{Ty, out-Ty}
use Rattle.mdr_core.specs.declared.types.Ty.TheOpen.{Ty-F}
use Rattle.mdr_core.specs.Layout.{Alone, Home, Leaf, cells, cells_or, field_leaves, leaves, leaves_below, leaves_by, repeated, struct_by, struct_cells, struct_of}
use Rattle.mdr_core.specs.Suited.{is_lock, is_lock_by}
use Rattle.mdr_fits.specs.Tables.{is_open}

-- none of the types is a lock
abbrev pub all_open : List Leaf → Bool
all_open leaves = list_all is_open (types_of leaves)

pub by_type : (leaves : List Leaf) → list_all (λ (l : Leaf). not (is_lock l.type)) leaves ≡ all_open leaves
by_type [] = refl
by_type (l ∷ ls) = ap (λ (b : Bool). not (is_lock l.type) && b) (by_type ls)

open_append : (xs ys : List Ty) → list_all is_open (xs ++ ys) ≡ (list_all is_open xs && list_all is_open ys)
open_append [] ys = refl
open_append (x ∷ xs) ys = of (is_open x) (list_all is_open (xs ++ ys)) (list_all is_open xs) (list_all is_open ys) (open_append xs ys)
  where
    of : (a whole b c : Bool) → whole ≡ (b && c) → (a && whole) ≡ ((a && b) && c)
    of true whole b c e = e
    of false whole b c e = refl

both_same : (b : Bool) → (b && b) ≡ b
both_same true = refl
both_same false = refl

both_true : (b : Bool) → (b && true) ≡ b
both_true true = refl
both_true false = refl

-- so many elements are open where one is
open_repeated : (n : ℕ) (xs : List Leaf) → all_open (repeated (suc n) xs) ≡ all_open xs
unfolding repeated
open_repeated zero xs = ap (list_all is_open) (types_append xs []) ∙ open_append (types_of xs) [] ∙ both_true (all_open xs)
open_repeated (suc n) xs =
    ap (list_all is_open) (types_append xs (repeated (suc n) xs)) ∙ open_append (types_of xs) (types_of (repeated (suc n) xs))
    ∙ ap (λ (b : Bool). all_open xs && b) (open_repeated n xs) ∙ both_same (all_open xs)

some_repeated : (n : ℕ) (xs : List Leaf) → (n ≡ 0 → ⊥) → all_open (repeated n xs) ≡ all_open xs
some_repeated zero xs some = absurd (some refl)
some_repeated (suc n) xs some = open_repeated n xs

-- ---- elements

pub none_open : (n : ℕ) (xs : List Leaf) → n ≡ 0 → true ≡ all_open (repeated n xs)
unfolding repeated
none_open zero xs e = refl
none_open (suc n) xs e = absurd (Prim.cc)

pub known_open : (structs : List StructDef) (below n : ℕ) (ty : Ty) (s : ℕ) → (n ≡ 0 → ⊥) → struct_of ty ≡ Some s → s < below → all_open (struct_cells structs s) ≡ all_open (repeated n (leaves (leaves_below structs below) Alone ty))
known_open structs below n ty s some e h = sym (ap (list_all is_open) (known_row structs below n ty s e h) ∙ some_repeated n (struct_cells structs s) some)

pub unknown_open : (structs : List StructDef) (below n : ℕ) (ty : Ty) (s : ℕ) → struct_of ty ≡ Some s → below ≤ s → true ≡ all_open (repeated n (leaves (leaves_below structs below) Alone ty))
unknown_open structs below n ty s e h = sym (ap (list_all is_open) (unknown_row structs below n ty s e h))

struct_open_by : (known : ℕ → List Leaf) (ty : Ty) (s : ℕ) (t : Ty-F Ty) → struct_by t ≡ Some s → all_open (known s) ≡ all_open (leaves_by known Alone ty t)
struct_open_by known ty s (Ty-F.Int k) e = absurd (Prim.cc)
struct_open_by known ty s Ty-F.Lock e = absurd (Prim.cc)
struct_open_by known ty s (Ty-F.Struct m) e = let same : s ≡ m = Prim.cc in ap (λ (i : ℕ). all_open (known i)) same
struct_open_by known ty s (Ty-F.Ptr t) e = absurd (Prim.cc)
struct_open_by known ty s Ty-F.VoidPtr e = absurd (Prim.cc)
struct_open_by known ty s (Ty-F.Fun ts) e = absurd (Prim.cc)
struct_open_by known ty s Ty-F.Void e = absurd (Prim.cc)

pub struct_open : (known : ℕ → List Leaf) (ty : Ty) (s : ℕ) → struct_of ty ≡ Some s → all_open (known s) ≡ all_open (leaves known Alone ty)
unfolding leaves
struct_open known ty s e = struct_open_by known ty s (out-Ty ty) e

scalar_open_by : (known : ℕ → List Leaf) (ty : Ty) (t : Ty-F Ty) → out-Ty ty ≡ t → struct_by t ≡ None → not (is_lock_by t) ≡ all_open (leaves_by known Alone ty t)
scalar_open_by known ty (Ty-F.Int k) is e = sym (both_true (is_open ty) ∙ ap (λ (l : Ty-F Ty). not (is_lock_by l)) is)
scalar_open_by known ty Ty-F.Lock is e = sym (both_true (is_open ty) ∙ ap (λ (l : Ty-F Ty). not (is_lock_by l)) is)
scalar_open_by known ty (Ty-F.Struct m) is e = absurd (Prim.cc)
scalar_open_by known ty (Ty-F.Ptr t) is e = sym (both_true (is_open ty) ∙ ap (λ (l : Ty-F Ty). not (is_lock_by l)) is)
scalar_open_by known ty Ty-F.VoidPtr is e = sym (both_true (is_open ty) ∙ ap (λ (l : Ty-F Ty). not (is_lock_by l)) is)
scalar_open_by known ty (Ty-F.Fun ts) is e = sym (both_true (is_open ty) ∙ ap (λ (l : Ty-F Ty). not (is_lock_by l)) is)
scalar_open_by known ty Ty-F.Void is e = refl

pub scalar_open : (known : ℕ → List Leaf) (ty : Ty) → struct_of ty ≡ None → not (is_lock ty) ≡ all_open (leaves known Alone ty)
unfolding leaves
scalar_open known ty e = scalar_open_by known ty (out-Ty ty) refl e

pub scalars_open : (known : ℕ → List Leaf) (n : ℕ) (ty : Ty) → (n ≡ 0 → ⊥) → struct_of ty ≡ None → not (is_lock ty) ≡ all_open (repeated n (leaves known Alone ty))
scalars_open known n ty some e = scalar_open known ty e ∙ sym (some_repeated n (leaves known Alone ty) some)

-- ---- fields

field_and_rest : (known : ℕ → List Leaf) (s : ℕ) (xs ys : List Field) (i : ℕ) (x : Field) → ys ≡ xs → i < length ys → x ≡ get_or ys i x
    → all_open (field_leaves known s i (drop i xs)) ≡ (all_open (repeated x.count (leaves known Alone x.ty)) && all_open (field_leaves known s (i + 1) (drop (i + 1) xs)))
field_and_rest known s xs ys i x same inside is =
    ap all_open (fields_more known s xs i x (rw (← same) inside) (rw (← same) is))
    ∙ ap (list_all is_open) (types_append (repeated x.count (leaves known (Home.Within s i) x.ty)) (field_leaves known s (i + 1) (drop (i + 1) xs)))
    ∙ open_append (types_of (repeated x.count (leaves known (Home.Within s i) x.ty))) (types_of (field_leaves known s (i + 1) (drop (i + 1) xs)))
    ∙ ap (λ (ts : List Ty). list_all is_open ts && all_open (field_leaves known s (i + 1) (drop (i + 1) xs))) (types_alike known x.count (Home.Within s i) Alone x.ty)

module _ (known : ℕ → List Leaf) (s : ℕ) (xs ys : List Field) (i : ℕ) where
  pub open_on : (x : Field) (all : Bool) → ys ≡ xs → i < length ys → x ≡ get_or ys i x → all_open (repeated x.count (leaves known Alone x.ty)) ≡ true
      → all_open (field_leaves known s i (drop i xs)) ≡ all → all_open (field_leaves known s (i + 1) (drop (i + 1) xs)) ≡ all
  open_on x all same inside is here so_far =
      sym (field_and_rest known s xs ys i x same inside is ∙ ap (λ (b : Bool). b && all_open (field_leaves known s (i + 1) (drop (i + 1) xs))) here) ∙ so_far

  pub locked_here : (x : Field) (all : Bool) → ys ≡ xs → i < length ys → x ≡ get_or ys i x → all_open (repeated x.count (leaves known Alone x.ty)) ≡ false
      → all_open (field_leaves known s i (drop i xs)) ≡ all → false ≡ all
  locked_here x all same inside is here so_far =
      sym (field_and_rest known s xs ys i x same inside is ∙ ap (λ (b : Bool). b && all_open (field_leaves known s (i + 1) (drop (i + 1) xs))) here) ∙ so_far

  pub open_to_end : (all : Bool) → ys ≡ xs → length ys ≤ i → all_open (field_leaves known s i (drop i xs)) ≡ all → true ≡ all
  open_to_end all same past so_far = sym (ap all_open (fields_over known s xs i (rw (← same) past))) ∙ so_far

-- ---- types of the table

pub named_open : (program : Program) (o : Option Ty) (ty : Ty) → o ≡ Some ty → all_open (leaves (struct_cells program.structs) Alone ty) ≡ list_all (λ (l : Leaf). not (is_lock l.type)) (cells_or program o)
unfolding cells
named_open program o ty e = sym (ap (λ (x : Option Ty). list_all (λ (l : Leaf). not (is_lock l.type)) (cells_or program x)) e ∙ by_type (leaves (struct_cells program.structs) Alone ty))

pub unnamed_open : (program : Program) (o : Option Ty) → o ≡ None → true ≡ list_all (λ (l : Leaf). not (is_lock l.type)) (cells_or program o)
unnamed_open program o e = sym (ap (λ (x : Option Ty). list_all (λ (l : Leaf). not (is_lock l.type)) (cells_or program x)) e)
