-- What nothing initialises is filled by zeros (C99 6.7.8, paragraph 10).
use Rattle.std.proofs.Common.{◌≡◌, ℕ, zero, suc, ◌+◌, ◌==◌, Bool, true, false, pos, IsTrue, List, [], ◌∷◌, ◌++◌, refl, sym, ap, ◌∙◌, subst}
use Rattle.std.proofs.lemmas.List.{map-append}
use Rattle.mdr_core.specs.declared.kind.Kind.{Kind}
use Rattle.mdr_core.specs.declared.program.Field.{Field}
use Rattle.mdr_core.specs.declared.program.Program.{Program}
use Rattle.mdr_core.specs.declared.program.StructDef.{StructDef}
use Rattle.mdr_core.specs.declared.types.Ty.{Ty, out-Ty, roll-Ty, roll-out-Ty}
use Rattle.mdr_core.specs.declared.types.Ty.TheOpen.{Ty-F}
use Rattle.mdr_core.specs.declared.types.Ty.TheVariants as type
use Rattle.mdr_core.specs.declared.types.Ty.TheVariants.{rolls-Int, rolls-Lock, rolls-Ptr, rolls-VoidPtr, rolls-Fun, rolls-Struct, rolls-Void}
use Rattle.mdr_core.specs.Kinds.{is_in_range}
use Rattle.mdr_core.specs.Layout.{Leaf, Home, Alone, Within, leaves, leaves_by, leaves_below, field_leaves, repeated, struct_cells, fields_of, zero_by, zero_value, chosen}
use Rattle.mdr_core.specs.Sound.{IsFirstValue}
use Rattle.mdr_core.specs.Types.{is_pointer, is_pointer_by}
use Rattle.mdr_core.proofs.Ranges.{in_range-from, least-le-zero, zero-le-greatest}
use Rattle.mdr_faults.specs.declared.scope.Object.{Object}
use Rattle.mdr_program.specs.Values.{zeros, object_cells}
use Rattle.mdr_sound.proofs.Sorts.{integer_is}
use Rattle.mdr_sound.proofs.Filled.{Fills, Done, fills_append, fills_sole, fills_as, fills_values, types_of}

-- ---- a type by its form

pub is_lock : (t : Ty) → out-Ty t ≡ Ty-F.Lock → t ≡ type.Lock
is_lock t e = sym (roll-out-Ty t) ∙ ap roll-Ty e ∙ rolls-Lock

pub is_fun : (t : Ty) (ts : List Ty) → out-Ty t ≡ Ty-F.Fun ts → t ≡ type.Fun ts
is_fun t ts e = sym (roll-out-Ty t) ∙ ap roll-Ty e ∙ rolls-Fun ts

pub is_pointer_of : (t : Ty) (l : Ty-F Ty) → out-Ty t ≡ l → is_pointer_by l ≡ true → IsTrue (is_pointer t)
is_pointer_of t l e h = ap is_pointer_by e ∙ h

-- ---- zeros

zero_in_range : (k : Kind) → is_in_range k (pos 0) ≡ true
zero_in_range k = in_range-from k (pos 0) (least-le-zero k) (zero-le-greatest k)

record ZeroFills (program : Program) (g : ℕ) (cells : List Leaf) : Type 0 where
  by : Fills program g (types_of cells) (zeros cells)

none_zero : (program : Program) (g : ℕ) → ZeroFills program g []
none_zero program g = record { by = Done }

both_zero : (program : Program) (g : ℕ) (xs ys : List Leaf) → ZeroFills program g xs → ZeroFills program g ys → ZeroFills program g (xs ++ ys)
both_zero program g xs ys p q = record {
  by = fills_as program g (types_of xs ++ types_of ys) (types_of (xs ++ ys)) (zeros (xs ++ ys)) (sym (map-append (λ (l : Leaf). l.type) xs ys))
      (fills_values program g (types_of xs ++ types_of ys) (zeros xs ++ zeros ys) (zeros (xs ++ ys)) (sym (map-append (λ (l : Leaf). zero_value l.type) xs ys))
      (fills_append program g (types_of xs) (types_of ys) (zeros xs) (zeros ys) p.by q.by));
}

repeated_zero : (program : Program) (g n : ℕ) (xs : List Leaf) → ZeroFills program g xs → ZeroFills program g (repeated n xs)
unfolding repeated
repeated_zero program g zero xs p = none_zero program g
repeated_zero program g (suc n) xs p = both_zero program g xs (repeated n xs) p (repeated_zero program g n xs p)

sole_zero : (program : Program) (g : ℕ) (home : Home) (ty : Ty) (l : Ty-F Ty) → out-Ty ty ≡ l → IsFirstValue program g ty (zero_by l) → ZeroFills program g (record { home = home; type = ty } ∷ [])
sole_zero program g home ty l e first = record { by = fills_sole program g ty (zero_value ty) (subst (λ (x : Ty-F Ty). IsFirstValue program g ty (zero_by x)) (sym e) first) }

leaf_zero : (program : Program) (g : ℕ) (known : ℕ → List Leaf) (home : Home) (ty : Ty) (l : Ty-F Ty) → ((s : ℕ) → ZeroFills program g (known s)) → out-Ty ty ≡ l → ZeroFills program g (leaves_by known home ty l)
leaf_zero program g known home ty (Ty-F.Int k) h e = sole_zero program g home ty (Ty-F.Int k) e (integer_is ty k e, zero_in_range k)
leaf_zero program g known home ty Ty-F.Lock h e = sole_zero program g home ty Ty-F.Lock e (is_lock ty e, refl)
leaf_zero program g known home ty (Ty-F.Struct s) h e = h s
leaf_zero program g known home ty (Ty-F.Ptr t) h e = sole_zero program g home ty (Ty-F.Ptr t) e (is_pointer_of ty (Ty-F.Ptr t) e refl)
leaf_zero program g known home ty Ty-F.VoidPtr h e = sole_zero program g home ty Ty-F.VoidPtr e (is_pointer_of ty Ty-F.VoidPtr e refl)
leaf_zero program g known home ty (Ty-F.Fun ts) h e = sole_zero program g home ty (Ty-F.Fun ts) e (is_pointer_of ty (Ty-F.Fun ts) e refl)
leaf_zero program g known home ty Ty-F.Void h e = none_zero program g

leaves_zero : (program : Program) (g : ℕ) (known : ℕ → List Leaf) (home : Home) (ty : Ty) → ((s : ℕ) → ZeroFills program g (known s)) → ZeroFills program g (leaves known home ty)
unfolding leaves
leaves_zero program g known home ty h = leaf_zero program g known home ty (out-Ty ty) h refl

fields_zero : (program : Program) (g : ℕ) (known : ℕ → List Leaf) (s f : ℕ) (xs : List Field) → ((t : ℕ) → ZeroFills program g (known t)) → ZeroFills program g (field_leaves known s f xs)
unfolding field_leaves
fields_zero program g known s f [] h = none_zero program g
fields_zero program g known s f (x ∷ xs) h =
    both_zero program g (repeated x.count (leaves known (Within s f) x.ty)) (field_leaves known s (f + 1) xs)
    (repeated_zero program g x.count (leaves known (Within s f) x.ty) (leaves_zero program g known (Within s f) x.ty h))
    (fields_zero program g known s (f + 1) xs h)

chosen_zero : (program : Program) (g : ℕ) (test : Bool) (xs ys : List Leaf) → ZeroFills program g xs → ZeroFills program g ys → ZeroFills program g (chosen test xs ys)
chosen_zero program g true xs ys p q = p
chosen_zero program g false xs ys p q = q

below_zero : (program : Program) (g : ℕ) (structs : List StructDef) (n s : ℕ) → ZeroFills program g (leaves_below structs n s)
unfolding leaves_below
below_zero program g structs zero s = none_zero program g
below_zero program g structs (suc n) s =
    chosen_zero program g (s == n) (field_leaves (leaves_below structs n) n 0 (fields_of structs n)) (leaves_below structs n s)
    (fields_zero program g (leaves_below structs n) n 0 (fields_of structs n) (λ t. below_zero program g structs n t))
    (below_zero program g structs n s)

struct_zero : (program : Program) (g : ℕ) (structs : List StructDef) (s : ℕ) → ZeroFills program g (struct_cells structs s)
unfolding struct_cells
struct_zero program g structs s = fields_zero program g (leaves_below structs s) s 0 (fields_of structs s) (λ t. below_zero program g structs s t)

-- the zeros of an object
pub object_zero : (program : Program) (g : ℕ) (structs : List StructDef) (o : Object) → Fills program g (types_of (object_cells structs o)) (zeros (object_cells structs o))
object_zero program g structs o = (repeated_zero program g o.count (leaves (struct_cells structs) Alone o.ty) (leaves_zero program g (struct_cells structs) Alone o.ty (λ s. struct_zero program g structs s))).by
