-- Each cell has the type of what its key names, so one whose key is no lock's is no lock.
use Rattle.std.proofs.Common.{◌≡◌, ℕ, zero, suc, ◌+◌, Bool, true, false, not, List, [], ◌∷◌, ◌++◌, Option, Some, None, refl, sym, ◌∙◌, ap, subst, arith}
use Rattle.std.specs.Prelude.{slice_get, option_map, ◌==◌}
use Rattle.std.specs.List.{AllByRecursion}
use Rattle.std.proofs.lemmas.Bool.{both_ways}
use Rattle.mdr_core.specs.declared.plan.Key.{Key}
use Rattle.mdr_core.specs.declared.plan.Key.TheVariants as key
use Rattle.mdr_core.specs.declared.program.Field.{Field}
use Rattle.mdr_core.specs.declared.program.GlobalDef.{GlobalDef}
use Rattle.mdr_core.specs.declared.program.Program.{Program}
use Rattle.mdr_core.specs.declared.types.Ty.{Ty, out-Ty}
use Rattle.mdr_core.specs.declared.types.Ty.TheOpen.{Ty-F}
use Rattle.mdr_core.specs.Layout.{Home, Alone, Within, Leaf, cells, cells_at, cells_or, chosen, field_leaves, fields_of, key_by, leaves, leaves_below, leaves_by, repeated, struct_cells}
use Rattle.mdr_core.specs.Suited.{field_type, global_type, is_key, is_lock, is_no_lock, key_type}
use Rattle.mdr_model.specs.declared.message.New.{New}
use Rattle.mdr_model.specs.Memory.{leaf_at, leaves_of}

-- ---- what holds of each of a list

all_both : {A : Type 0} (P : A → Type 0) (xs ys : List A) → AllByRecursion P xs → AllByRecursion P ys → AllByRecursion P (xs ++ ys)
all_both P [] ys h j = j
all_both P (x ∷ xs) ys h j = (h.0, all_both P xs ys h.1 j)

all_repeated : {A : Type 0} (P : A → Type 0) (n : ℕ) (xs : List A) → AllByRecursion P xs → AllByRecursion P (repeated n xs)
unfolding repeated
all_repeated P zero xs h = tt
all_repeated P (suc n) xs h = all_both P xs (repeated n xs) h (all_repeated P n xs h)

one_of : {A : Type 0} (P : A → Type 0) (xs : List A) (i : ℕ) (x : A) → AllByRecursion P xs → slice_get xs i ≡ Some x → P x
one_of {A} P [] i x h e = let no : ◌≡◌ {A = Option A} None (Some x) = e in cc
one_of P (y ∷ ys) zero x h e = let same : y ≡ x = cc in subst P same h.0
one_of P (y ∷ ys) (suc i) x h e = one_of P ys i x h.1 e

module _ (program : Program) (number : ℕ) where
  -- the type is that of the field around a cell, or where there is none that of the element
  abbrev HasType : Home → Ty → Type 0
  HasType Alone t = slice_get program.types number ≡ Some t
  HasType (Within s f) t = (x : Field) × (slice_get (fields_of program.structs s) f ≡ Some x) × (x.ty ≡ t)

  abbrev IsTyped : Leaf → Type 0
  IsTyped l = HasType l.home l.type

  abbrev AreTyped : List Leaf → Type 0
  AreTyped xs = AllByRecursion IsTyped xs

  layer_typed : (known : ℕ → List Leaf) (home : Home) (ty : Ty) (t : Ty-F Ty) → ((s : ℕ) → AreTyped (known s)) → HasType home ty → AreTyped (leaves_by known home ty t)
  layer_typed known home ty (Ty-F.Int k) each h = (h, tt)
  layer_typed known home ty Ty-F.Lock each h = (h, tt)
  layer_typed known home ty (Ty-F.Struct s) each h = each s
  layer_typed known home ty (Ty-F.Ptr t) each h = (h, tt)
  layer_typed known home ty Ty-F.VoidPtr each h = (h, tt)
  layer_typed known home ty (Ty-F.Fun ts) each h = (h, tt)
  layer_typed known home ty Ty-F.Void each h = tt

  leaves_typed : (known : ℕ → List Leaf) (home : Home) (ty : Ty) → ((s : ℕ) → AreTyped (known s)) → HasType home ty → AreTyped (leaves known home ty)
  unfolding leaves
  leaves_typed known home ty each h = layer_typed known home ty (out-Ty ty) each h

  fields_typed : (known : ℕ → List Leaf) (s f : ℕ) (xs : List Field) → ((t : ℕ) → AreTyped (known t)) → ((i : ℕ) (x : Field) → slice_get xs i ≡ Some x → slice_get (fields_of program.structs s) (f + i) ≡ Some x) → AreTyped (field_leaves known s f xs)
  unfolding field_leaves
  fields_typed known s f [] each names = tt
  fields_typed known s f (x ∷ xs) each names =
      all_both IsTyped (repeated x.count (leaves known (Within s f) x.ty)) (field_leaves known s (f + 1) xs)
      (all_repeated IsTyped x.count (leaves known (Within s f) x.ty) (leaves_typed known (Within s f) x.ty each (x, ap (slice_get (fields_of program.structs s)) first ∙ names 0 x refl, refl)))
      (fields_typed known s (f + 1) xs each (λ i y e. ap (slice_get (fields_of program.structs s)) (next i) ∙ names (suc i) y e))
    where
      first : f ≡ f + 0
      first = omega arith

      next : (i : ℕ) → f + 1 + i ≡ f + suc i
      next i = omega arith

  own_typed : (known : ℕ → List Leaf) (s : ℕ) → ((t : ℕ) → AreTyped (known t)) → AreTyped (field_leaves known s 0 (fields_of program.structs s))
  own_typed known s each = fields_typed known s 0 (fields_of program.structs s) each (λ i x e. ap (slice_get (fields_of program.structs s)) (from i) ∙ e)
    where
      from : (i : ℕ) → 0 + i ≡ i
      from i = omega arith

  below_typed : (n s : ℕ) → AreTyped (leaves_below program.structs n s)
  unfolding leaves_below
  below_typed zero s = tt
  below_typed (suc n) s = of (s == n) (own_typed (leaves_below program.structs n) n (below_typed n)) (below_typed n s)
    where
      of : (b : Bool) → AreTyped (field_leaves (leaves_below program.structs n) n 0 (fields_of program.structs n)) → AreTyped (leaves_below program.structs n s)
          → AreTyped (chosen b (field_leaves (leaves_below program.structs n) n 0 (fields_of program.structs n)) (leaves_below program.structs n s))
      of true own lower = own
      of false own lower = lower

  struct_typed : (s : ℕ) → AreTyped (struct_cells program.structs s)
  unfolding struct_cells
  struct_typed s = own_typed (leaves_below program.structs s) s (below_typed s)

  cells_typed : (o : Option Ty) → slice_get program.types number ≡ o → AreTyped (cells_or program o)
  unfolding cells
  cells_typed None e = tt
  cells_typed (Some ty) e = leaves_typed (struct_cells program.structs) Alone ty struct_typed e

  -- ---- keys

  some_type : (t u : Ty) → ◌≡◌ {A = Option Ty} (Some t) (Some u) → t ≡ u
  some_type t u e = cc

  not_lock : (b : Bool) → not b ≡ true → b ≡ false
  not_lock true e = absurd (both_ways false refl e)
  not_lock false e = refl

  by_key : (k : Key) (t : Ty) → key_type program k ≡ Some t → is_key program k ≡ true → is_lock t ≡ false
  unfolding is_key
  by_key k t e h = not_lock (is_lock t) (ap is_no_lock (sym e) ∙ h)

  global_key : (g : ℕ) (t : Ty) (o : Option GlobalDef) → slice_get program.globals g ≡ o → ((def : GlobalDef) → o ≡ Some def → slice_get program.types number ≡ Some def.ty) → slice_get program.types number ≡ Some t → is_key program (key.Global g) ≡ true → is_lock t ≡ false
  unfolding is_key
  global_key g t None e typed h kept = absurd (both_ways (is_no_lock (option_map global_type (slice_get program.globals g))) (ap (λ o. is_no_lock (option_map global_type o)) e) kept)
  global_key g t (Some def) e typed h kept = by_key (key.Global g) t (ap (option_map global_type) e ∙ (sym (typed def refl) ∙ h)) kept

  open_leaf : (block : Option ℕ) (home : Home) (t : Ty) → ((g : ℕ) (def : GlobalDef) → block ≡ Some g → slice_get program.globals g ≡ Some def → slice_get program.types number ≡ Some def.ty)
      → HasType home t → is_key program (key_by home block number) ≡ true → is_lock t ≡ false
  open_leaf block (Within s f) t typed h kept = by_key (key.Field s f) t (ap (option_map field_type) h.1 ∙ ap Some h.2) kept
  open_leaf (Some g) Alone t typed h kept = global_key g t (slice_get program.globals g) refl (λ def e. typed g def refl e) h kept
  open_leaf None Alone t typed h kept = by_key (key.Elem number) t h kept

-- a cell of a block whose key is no lock's is no lock
pub block_open : (program : Program) (block : New) (index : ℕ) (l : Leaf) (global : Option ℕ) → leaf_at program block index ≡ Some l
    → ((g : ℕ) (def : GlobalDef) → global ≡ Some g → slice_get program.globals g ≡ Some def → slice_get program.types block.ty ≡ Some def.ty)
    → is_key program (key_by l.home global block.ty) ≡ true → is_lock l.type ≡ false
unfolding leaves_of
block_open program block index l global is typed kept =
    let all = all_repeated (IsTyped program block.ty) block.count (cells_at program block.ty) (cells_typed program block.ty (slice_get program.types block.ty) refl) in
    open_leaf program block.ty global l.home l.type typed (one_of (IsTyped program block.ty) (leaves_of program block) index l all is) kept
