-- The first values of an object, from what an initialiser is made of (C99 6.7.8).
use Rattle.std.proofs.Common.{◌≡◌, ℕ, suc, ◌+◌, ◌-◌, ◌≤◌, true, false, ◌&&◌, pos, List, [], ◌∷◌, ◌++◌, length, refl, sym, ap, ◌∙◌, subst, append_assoc, append-nil, arith}
use Rattle.std.proofs.lemmas.List.{map-append}
use Rattle.mdr_core.specs.declared.kind.Kind.{Kind}
use Rattle.mdr_core.specs.declared.place.Place.{Place}
use Rattle.mdr_core.specs.declared.program.Program.{Program}
use Rattle.mdr_core.specs.declared.program.StructDef.{StructDef}
use Rattle.mdr_core.specs.declared.types.Ty.{Ty, out-Ty}
use Rattle.mdr_core.specs.declared.types.Ty.TheOpen.{Ty-F}
use Rattle.mdr_core.specs.declared.value.Value.{Value}
use Rattle.mdr_core.specs.declared.value.Value.TheVariants as value
use Rattle.mdr_core.specs.Conversions.{converted}
use Rattle.mdr_core.specs.Layout.{Leaf, Home, Alone, leaves, leaves_by, repeated, struct_cells}
use Rattle.mdr_core.specs.Types.{is_scalar, is_scalar_by}
use Rattle.mdr_core.proofs.Conversions.{converted-in_range}
use Rattle.mdr_check.specs.declared.initialiser.First.{First}
use Rattle.mdr_check.specs.declared.initialiser.First.TheVariants as first
use Rattle.mdr_check.specs.declared.variable.Variable.{Variable}
use Rattle.mdr_check.specs.Initialisers.{Part, is_aggregate, single, sole, left_of, characters, has_room, text_by, takes_text, text_first, part_field, are_plain, appended, elements_first, element_of, suits_array, array_first}
use Rattle.mdr_headings.specs.Annotations.{is_character}
use Rattle.mdr_headings.specs.Structs.{is_struct}
use Rattle.mdr_faults.specs.declared.fault.FaultKind.TheVariants.{Mismatch}
use Rattle.mdr_faults.specs.declared.scope.Object.{Object}
use Rattle.mdr_faults.specs.Faults.{Checked, Right, after}
use Rattle.mdr_program.specs.Values.{zeros, object_cells, first_cells, first_values}
use Rattle.mdr_sound.proofs.Alike.{right_of as right_holds}
use Rattle.mdr_sound.proofs.JoinedLists.{or_left}
use Rattle.mdr_sound.proofs.Rights.{not_right, same_right, after_right, both_right, chosen_right, refused_right, demand_right}
use Rattle.mdr_sound.proofs.Filled.{Fills, fills_append, fills_sole, fills_as, fills_values, types_of, repeated_once, repeated_apart, fills_repeated, fills_none}
use Rattle.mdr_sound.proofs.SingleValues.{IsSingle}
use Rattle.mdr_sound.proofs.Sorts.{integer_is}
use Rattle.mdr_sound.proofs.ZeroFilled.{object_zero}

-- the cells of an object may begin with these values
pub record IsInitialised (program : Program) (vs : List Variable) (own : ℕ) (o : Object) (xs : List First) : Type 0 where
  pub by : Fills program own (types_of (object_cells program.structs o)) (first_values program.types program.structs vs xs)

-- one that is declared without brackets has one element
pub record IsSingular (o : Object) : Type 0 where
  pub count : o.array ≡ false → o.count ≡ 1

pub values_append : (types : List Ty) (structs : List StructDef) (vs : List Variable) (xs ys : List First) → first_values types structs vs (xs ++ ys) ≡ first_values types structs vs xs ++ first_values types structs vs ys
unfolding first_values
values_append types structs vs [] ys = refl
values_append types structs vs (x ∷ xs) ys =
    ap (λ (ws : List Value). first_cells types structs vs x ++ ws) (values_append types structs vs xs ys)
    ∙ sym (append_assoc (first_cells types structs vs x) (first_values types structs vs xs) (first_values types structs vs ys))

sole_values : (types : List Ty) (structs : List StructDef) (vs : List Variable) (x : First) → first_values types structs vs (x ∷ []) ≡ first_cells types structs vs x
unfolding first_values
sole_values types structs vs x = append-nil (first_cells types structs vs x)

more_values : (types : List Ty) (structs : List StructDef) (vs : List Variable) (x : First) (xs : List First) → first_values types structs vs (x ∷ xs) ≡ first_cells types structs vs x ++ first_values types structs vs xs
unfolding first_values
more_values types structs vs x xs = refl

no_values : (types : List Ty) (structs : List StructDef) (vs : List Variable) → first_values types structs vs [] ≡ []
unfolding first_values
no_values types structs vs = refl

-- nothing is initialised
pub zeros_initialise : (program : Program) (vs : List Variable) (own : ℕ) (o : Object) → IsInitialised program vs own o (first.Zeros o ∷ [])
zeros_initialise program vs own o = record {
  by = fills_values program own (types_of (object_cells program.structs o)) (zeros (object_cells program.structs o)) (first_values program.types program.structs vs (first.Zeros o ∷ [])) (sym (sole_values program.types program.structs vs (first.Zeros o))) (object_zero program own program.structs o);
}

-- ---- a single value

leaf_by : (known : ℕ → List Leaf) (home : Home) (ty : Ty) (l : Ty-F Ty) → is_scalar_by l ≡ true → leaves_by known home ty l ≡ record { home = home; type = ty } ∷ []
leaf_by known home ty (Ty-F.Int k) h = refl
leaf_by known home ty Ty-F.Lock h = absurd cc
leaf_by known home ty (Ty-F.Struct s) h = absurd cc
leaf_by known home ty (Ty-F.Ptr t) h = refl
leaf_by known home ty Ty-F.VoidPtr h = refl
leaf_by known home ty (Ty-F.Fun ts) h = refl
leaf_by known home ty Ty-F.Void h = absurd cc

scalar_leaf : (known : ℕ → List Leaf) (home : Home) (ty : Ty) → is_scalar ty ≡ true → leaves known home ty ≡ record { home = home; type = ty } ∷ []
unfolding leaves
scalar_leaf known home ty h = leaf_by known home ty (out-Ty ty) h

scalar_cells : (structs : List StructDef) (o : Object) → is_scalar o.ty ≡ true → o.count ≡ 1 → types_of (object_cells structs o) ≡ o.ty ∷ []
scalar_cells structs o scalar count =
    ap (λ n. types_of (repeated n (leaves (struct_cells structs) Alone o.ty))) count
    ∙ ap types_of (repeated_once (leaves (struct_cells structs) Alone o.ty) ∙ scalar_leaf (struct_cells structs) Alone o.ty scalar)

sole_initialises : (program : Program) (vs : List Variable) (own : ℕ) (o : Object) (x : First) → is_scalar o.ty ≡ true → o.count ≡ 1 → IsSingle program vs own o.ty x → IsInitialised program vs own o (x ∷ [])
sole_initialises program vs own o x scalar count s = record {
  by = fills_as program own (o.ty ∷ []) (types_of (object_cells program.structs o)) (first_values program.types program.structs vs (x ∷ [])) (sym (scalar_cells program.structs o scalar count))
      (fills_values program own (o.ty ∷ []) (s.value ∷ []) (first_values program.types program.structs vs (x ∷ [])) (sym (sole_values program.types program.structs vs x ∙ s.made))
      (fills_sole program own o.ty s.value s.fits));
}

pub single_initialises : (program : Program) (vs : List Variable) (own : ℕ) (p : Place) (o : Object) (c : Checked First) (xs : List First) → IsSingular o → ((x : First) → c ≡ Right x → IsSingle program vs own o.ty x) → single p o c ≡ Right xs → IsInitialised program vs own o xs
single_initialises program vs own p o c xs singular known e =
    let part = refused_right (is_aggregate o) (after c (sole p o.ty)) p Mismatch xs e in
    let flat : o.array ≡ false = or_left o.array (is_struct o.ty) part.fails in
    let one = after_right c (sole p o.ty) xs part.right in
    let test = chosen_right (is_scalar o.ty) (Right (one.value ∷ [])) p Mismatch xs one.made in
    subst (IsInitialised program vs own o) (same_right (one.value ∷ []) xs test.right) (sole_initialises program vs own o one.value test.holds (singular.count flat) (known one.value one.right))

-- ---- elements of arrays

-- the first n elements are initialised, and those behind them are zero
pub elements_initialise : (program : Program) (vs : List Variable) (own : ℕ) (o : Object) (n : ℕ) (xs : List First) → n ≤ o.count
    → Fills program own (types_of (repeated n (leaves (struct_cells program.structs) Alone o.ty))) (first_values program.types program.structs vs xs) → IsInitialised program vs own o (xs ++ left_of o n ∷ [])
elements_initialise program vs own o n xs room p = record {
  by =
      let cells = leaves (struct_cells program.structs) Alone o.ty in
      let rest = object_zero program own program.structs (record { ty = o.ty; count = o.count - n; array = true }) in
      let all : n + (o.count - n) ≡ o.count = omega arith in
      fills_as program own (types_of (repeated n cells) ++ types_of (repeated (o.count - n) cells)) (types_of (object_cells program.structs o)) (first_values program.types program.structs vs (xs ++ left_of o n ∷ []))
      (sym (map-append (λ (l : Leaf). l.type) (repeated n cells) (repeated (o.count - n) cells)) ∙ ap types_of (repeated_apart n (o.count - n) cells ∙ ap (λ m. repeated m cells) all))
      (fills_values program own (types_of (repeated n cells) ++ types_of (repeated (o.count - n) cells)) (first_values program.types program.structs vs xs ++ zeros (repeated (o.count - n) cells)) (first_values program.types program.structs vs (xs ++ left_of o n ∷ []))
      (ap (λ (ws : List Value). first_values program.types program.structs vs xs ++ ws) (sym (sole_values program.types program.structs vs (left_of o n))) ∙ sym (values_append program.types program.structs vs xs (left_of o n ∷ [])))
      (fills_append program own (types_of (repeated n cells)) (types_of (repeated (o.count - n) cells)) (first_values program.types program.structs vs xs) (zeros (repeated (o.count - n) cells)) p rest));
}

room_for : (o : Object) (n : ℕ) → has_room o n ≡ true → n ≤ o.count
room_for o n h = grind arith

-- ---- texts

characters_fill : (program : Program) (vs : List Variable) (own : ℕ) (k : Kind) (ty : Ty) (bytes : List ℕ) → out-Ty ty ≡ Ty-F.Int k
    → Fills program own (types_of (repeated (length bytes) (leaves (struct_cells program.structs) Alone ty))) (first_values program.types program.structs vs (characters k bytes))
unfolding characters
characters_fill program vs own k ty [] q = fills_values program own (types_of (repeated 0 (leaves (struct_cells program.structs) Alone ty))) [] (first_values program.types program.structs vs []) (sym (no_values program.types program.structs vs)) (fills_none program own (leaves (struct_cells program.structs) Alone ty))
characters_fill program vs own k ty (b ∷ bs) q =
    let cells = leaves (struct_cells program.structs) Alone ty in
    let one = scalar_leaf (struct_cells program.structs) Alone ty (ap is_scalar_by q) in
    let v = value.Int k (converted k (pos b)) in
    fills_values program own (types_of (repeated (suc (length bs)) cells)) (v ∷ [] ++ first_values program.types program.structs vs (characters k bs)) (first_values program.types program.structs vs (first.Integer k (converted k (pos b)) ∷ characters k bs)) (sym (more_values program.types program.structs vs (first.Integer k (converted k (pos b))) (characters k bs)))
    (fills_repeated program own (length bs) cells (v ∷ []) (first_values program.types program.structs vs (characters k bs))
    (fills_as program own (ty ∷ []) (types_of cells) (v ∷ []) (sym (ap types_of one)) (fills_sole program own ty v (integer_is ty k q, converted-in_range k (pos b))))
    (characters_fill program vs own k ty bs q))

text_by_initialises : (program : Program) (vs : List Variable) (own : ℕ) (p : Place) (bytes : List ℕ) (o : Object) (xs : List First) (l : Ty-F Ty) → out-Ty o.ty ≡ l → length bytes ≤ o.count → text_by p bytes o l ≡ Right xs → IsInitialised program vs own o xs
text_by_initialises program vs own p bytes o xs (Ty-F.Int k) q room e = subst (IsInitialised program vs own o) (same_right (characters k bytes ++ left_of o (length bytes) ∷ []) xs e) (elements_initialise program vs own o (length bytes) (characters k bytes) room (characters_fill program vs own k o.ty bytes q))
text_by_initialises program vs own p bytes o xs Ty-F.Lock q room e = not_right _ xs e
text_by_initialises program vs own p bytes o xs (Ty-F.Struct s) q room e = not_right _ xs e
text_by_initialises program vs own p bytes o xs (Ty-F.Ptr t) q room e = not_right _ xs e
text_by_initialises program vs own p bytes o xs Ty-F.VoidPtr q room e = not_right _ xs e
text_by_initialises program vs own p bytes o xs (Ty-F.Fun ts) q room e = not_right _ xs e
text_by_initialises program vs own p bytes o xs Ty-F.Void q room e = not_right _ xs e

pub text_initialises : (program : Program) (vs : List Variable) (own : ℕ) (p : Place) (bytes : List ℕ) (o : Object) (xs : List First) → text_first p bytes o ≡ Right xs → IsInitialised program vs own o xs
unfolding text_first
text_initialises program vs own p bytes o xs e =
    let test = chosen_right (takes_text o (length bytes)) (text_by p bytes o (out-Ty o.ty)) p Mismatch xs e in
    let room : has_room o (length bytes) ≡ true = right_holds (is_character o.ty && o.array) (has_room o (length bytes)) test.holds in
    text_by_initialises program vs own p bytes o xs (out-Ty o.ty) refl (room_for o (length bytes) room) test.right

-- ---- lists for arrays

-- what an element of a list gives an object initialises it
pub record IsGood (program : Program) (vs : List Variable) (own : ℕ) (e : Part) : Type 0 where
  pub by : (o : Object) (xs : List First) → IsSingular o → e.init o ≡ Right xs → IsInitialised program vs own o xs

abbrev pub AreGood : Program → List Variable → ℕ → List Part → Type 0
AreGood program vs own [] = Unit {0}
AreGood program vs own (e ∷ es) = IsGood program vs own e × AreGood program vs own es

elements_fill : (program : Program) (vs : List Variable) (own : ℕ) (o : Object) (es : List Part) (xs : List First) → AreGood program vs own es → elements_first (element_of o) es ≡ Right xs
    → Fills program own (types_of (repeated (length es) (leaves (struct_cells program.structs) Alone o.ty))) (first_values program.types program.structs vs xs)
unfolding elements_first
elements_fill program vs own o [] xs good e =
    let none : first_values program.types program.structs vs xs ≡ [] = ap (first_values program.types program.structs vs) (sym (same_right [] xs e)) ∙ no_values program.types program.structs vs in
    fills_values program own (types_of (repeated 0 (leaves (struct_cells program.structs) Alone o.ty))) [] (first_values program.types program.structs vs xs) (sym none) (fills_none program own (leaves (struct_cells program.structs) Alone o.ty))
elements_fill program vs own o (x ∷ es) xs good e =
    let cells = leaves (struct_cells program.structs) Alone o.ty in
    let parts = both_right (x.init (element_of o)) (elements_first (element_of o) es) appended xs e in
    let one = (good.0).by (element_of o) parts.left (record { count = λ h. refl }) parts.first in
    fills_values program own (types_of (repeated (suc (length es)) cells)) (first_values program.types program.structs vs parts.left ++ first_values program.types program.structs vs parts.right) (first_values program.types program.structs vs xs)
    (sym (values_append program.types program.structs vs parts.left parts.right) ∙ ap (first_values program.types program.structs vs) (same_right (parts.left ++ parts.right) xs parts.made))
    (fills_repeated program own (length es) cells (first_values program.types program.structs vs parts.left) (first_values program.types program.structs vs parts.right)
    (fills_as program own (types_of (repeated 1 cells)) (types_of cells) (first_values program.types program.structs vs parts.left) (ap types_of (repeated_once cells)) one.by)
    (elements_fill program vs own o es parts.right good.1 parts.second))

pub array_initialises : (program : Program) (vs : List Variable) (own : ℕ) (p : Place) (o : Object) (es : List Part) (xs : List First) → AreGood program vs own es → array_first p o es ≡ Right xs → IsInitialised program vs own o xs
unfolding array_first
array_initialises program vs own p o es xs good e =
    let test = demand_right p Mismatch (suits_array part_field o es) (after (elements_first (element_of o) es) (λ ys. Right (ys ++ left_of o (length es) ∷ []))) xs e in
    let room : has_room o (length es) ≡ true = right_holds (are_plain part_field es) (has_room o (length es)) test.holds in
    let parts = after_right (elements_first (element_of o) es) (λ ys. Right (ys ++ left_of o (length es) ∷ [])) xs test.right in
    subst (IsInitialised program vs own o) (same_right (parts.value ++ left_of o (length es) ∷ []) xs parts.made)
    (elements_initialise program vs own o (length es) parts.value (room_for o (length es) room) (elements_fill program vs own o es parts.value good parts.right))
