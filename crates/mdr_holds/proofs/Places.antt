-- Cells of views: each element of a view of scalars is a cell of its type.
use Rattle.std.proofs.Common.{◌≡◌, ℕ, zero, suc, ◌+◌, ◌*◌, ◌<◌, ◌≤◌, List, ◌++◌, length, take, drop, slice_get, Some, None, refl, sym, ap, ◌∙◌, subst, arith}
use Rattle.std.proofs.lemmas.Option.{slice_get_within, get_or_from_slice_get}
use Rattle.mdr_core.specs.declared.program.Field.{Field}
use Rattle.mdr_core.specs.declared.program.Program.{Program}
use Rattle.mdr_core.specs.declared.program.StructDef.{StructDef}
use Rattle.mdr_core.specs.declared.types.Shape.{Shape}
use Rattle.mdr_core.specs.declared.types.Ty.{Ty}
use Rattle.mdr_core.specs.declared.value.View.{View}
use Rattle.mdr_core.specs.Layout.{Leaf, Home, Alone, cells_at, field_leaves, field_start, fields_of, leaves, leaves_below, repeated, struct_cells, struct_of}
use Rattle.mdr_core.specs.Sound.{IsSound}
use Rattle.mdr_core.specs.Views.{AreLaid, Element, HasCells, Inside, IsIn, IsViewOf, Whole}
use Rattle.mdr_core.proofs.Laid.{laid_out, type_has_cells}
use Rattle.mdr_core.proofs.Lying.{Looks, cells_of_type, fields_apart, get-append_left, get-append_right, length-leaves, length-repeated, looks, positive, single, struct_leaves}
use Rattle.mdr_core.proofs.Viewed.{cells_known, field_end, some_same}
use Rattle.mdr_model.specs.declared.message.New.{New}
use Rattle.mdr_model.specs.Memory.{leaves_of, size_of}

-- a cell of the type
pub record HasLeaf (cells : List Leaf) (i : ℕ) (ty : Ty) : Type 0 where
  pub home : Home
  pub is : slice_get cells i ≡ Some (record { home = home; type = ty })

-- ---- elements one after another

enough : (n l c : ℕ) → 1 ≤ l → c < n → c < n * l
enough n zero c h i = absurd (omega (arith, h))
enough n (suc l) c h i = omega (arith, i)

element_get : {A : Type 0} (n : ℕ) (xs : List A) (e r : ℕ) → e < n → r < length xs → slice_get (repeated n xs) (e * length xs + r) ≡ slice_get xs r
unfolding repeated
element_get zero xs e r h i = absurd (omega (arith, h))
element_get (suc n) xs zero r h i =
    let at : 0 * length xs + r ≡ r = omega arith in
    ap (slice_get (xs ++ repeated n xs)) at ∙ get-append_left xs (repeated n xs) r i
element_get (suc n) xs (suc e) r h i =
    let at : suc e * length xs + r ≡ length xs + (e * length xs + r) = omega arith in
    ap (slice_get (xs ++ repeated n xs)) at ∙ get-append_right xs (repeated n xs) (e * length xs + r) ∙ element_get n xs e r (omega (arith, h)) i

within : (n l e r : ℕ) → e < n → r < l → e * l + r < n * l
within zero l e r h i = absurd (omega (arith, h))
within (suc n) l zero r h i = let first : 0 * l ≡ 0 = omega arith in omega (arith, i, first)
within (suc n) l (suc e) r h i = let rest : e * l + r < n * l = within n l e r (omega (arith, h)) i in omega (arith, rest)

-- ---- the cells of a field lie in its struct

module _ (structs : List StructDef) (s f : ℕ) (x : Field) (names : slice_get (fields_of structs s) f ≡ Some x) where
  abbrev own : List Leaf
  own = repeated x.count (leaves (leaves_below structs s) (Home.Within s f) x.ty)

  looks_here : Looks structs s f x (length (leaves (leaves_below structs s) Alone x.ty))
  looks_here = looks structs s (fields_of structs s) f x (length (leaves (leaves_below structs s) Alone x.ty)) refl (slice_get_within (fields_of structs s) f x names) (sym (get_or_from_slice_get (fields_of structs s) f x x names)) refl

  field_get : (r : ℕ) → r < length own → slice_get (struct_cells structs s) (field_start structs s f + r) ≡ slice_get own r
  unfolding struct_cells field_start
  field_get r inside =
      let before = field_leaves (leaves_below structs s) s 0 (take f (fields_of structs s)) in
      let behind = field_leaves (leaves_below structs s) s (0 + f) (drop f (fields_of structs s)) in
      let later = field_leaves (leaves_below structs s) s (f + 1) (drop (f + 1) (fields_of structs s)) in
      let from : 0 + f ≡ f = omega arith in
      ap (λ (xs : List Leaf). slice_get xs (length before + r)) (fields_apart (leaves_below structs s) s 0 f (fields_of structs s))
      ∙ get-append_right before behind r
      ∙ ap (λ (i : ℕ). slice_get (field_leaves (leaves_below structs s) s i (drop f (fields_of structs s))) r) from
      ∙ ap (λ (xs : List Leaf). slice_get xs r) looks_here.all
      ∙ get-append_left own later r inside

-- ---- views

module _ (program : Program) (laid : AreLaid program.structs) (view : View) (ty : Ty) (viewed : slice_get program.types view.ty ≡ Some ty) (lone : struct_of ty ≡ None) where
  abbrev known : ℕ → List Leaf
  known = struct_cells program.structs

  -- element i of the view, counted from where the block's part begins
  record IsThere (first : ℕ) (cells : List Leaf) (size i : ℕ) : Type 0 where
    place : ℕ
    at : first + place ≡ view.first + i
    inside : place < size
    leaf : HasLeaf cells place ty

  cells_there : (t : Ty) (count : ℕ) → 1 ≤ count * length (leaves known Alone t) → HasCells program.structs t
  cells_there t count h = record { some = positive count (length (leaves known Alone t)) 0 h }

  there_in : (i : ℕ) → i < view.count → (first : ℕ) (t : Ty) (count : ℕ) → HasCells program.structs t → IsIn program view first t count → (home : Home) → IsThere first (repeated count (leaves known home t)) (count * length (leaves known Alone t)) i
  there_in i h first t count cells (Whole _ _ _ begins names many) home =
      let same : t ≡ ty = some_same (sym names ∙ viewed) in
      let inside : i < count * length (leaves known Alone t) = enough count (length (leaves known Alone t)) i cells.some (omega (arith, h, many)) in
      record {
        place = i;
        at = omega (arith, begins);
        inside = inside;
        leaf = record { home = home; is = single known home t count i (ap struct_of same ∙ lone) inside ∙ ap (λ (u : Ty). Some (record { home = home; type = u })) same };
      }
  there_in i h first t count cells (Element _ _ _ s e struct among begins names many) home =
      let same : t ≡ ty = some_same (sym names ∙ viewed) in
      let both : Some s ≡ None = sym struct ∙ ap struct_of same ∙ lone in absurd cc
  there_in i h first t count cells (Inside _ _ _ s e f x struct among names inner) home =
      let fills : 1 ≤ x.count * length (leaves known Alone x.ty) = subst (λ (n : ℕ). 1 ≤ x.count * n) (ap length (cells_known program.structs s f x Alone laid names)) (laid.filled s f x names) in
      let r = there_in i h _ x.ty x.count (cells_there x.ty x.count fills) inner (Home.Within s f) in
      let own_is = cells_known program.structs s f x (Home.Within s f) laid names in
      let size_is : length (leaves (leaves_below program.structs s) Alone x.ty) ≡ length (leaves known Alone x.ty) = ap length (cells_known program.structs s f x Alone laid names) in
      let long : length (repeated x.count (leaves (leaves_below program.structs s) (Home.Within s f) x.ty)) ≡ x.count * length (leaves known Alone x.ty) =
      length-repeated x.count (leaves (leaves_below program.structs s) (Home.Within s f) x.ty) ∙ ap (λ (n : ℕ). x.count * n) (ap length own_is ∙ length-leaves known (Home.Within s f) Alone x.ty)
      in
      let place_own : r.place < length (repeated x.count (leaves (leaves_below program.structs s) (Home.Within s f) x.ty)) = omega (arith, r.inside, long) in
      let ends : field_start program.structs s f + x.count * length (leaves known Alone x.ty) ≤ length (known s) = subst (λ (n : ℕ). field_start program.structs s f + x.count * n ≤ length (known s)) size_is (field_end program.structs s f x names) in
      let small : field_start program.structs s f + r.place < length (known s) = omega (arith, r.inside, ends) in
      let whole : leaves known home t ≡ known s = struct_leaves known home t s struct in
      let plain : leaves known Alone t ≡ known s = struct_leaves known Alone t s struct in
      let got : slice_get (repeated count (known s)) (e * length (known s) + (field_start program.structs s f + r.place)) ≡ Some (record { home = r.leaf.home; type = ty }) =
      element_get count (known s) e (field_start program.structs s f + r.place) among small ∙ field_get program.structs s f x names r.place place_own
      ∙ ap (λ (xs : List Leaf). slice_get (repeated x.count xs) r.place) own_is ∙ r.leaf.is
      in
      record {
        place = e * length (known s) + (field_start program.structs s f + r.place);
        at = omega (arith, r.at);
        inside = subst (λ (xs : List Leaf). e * length (known s) + (field_start program.structs s f + r.place) < count * length xs) (sym plain) (within count (length (known s)) e (field_start program.structs s f + r.place) among small);
        leaf = record { home = r.leaf.home; is = ap (λ (xs : List Leaf). slice_get (repeated count xs) (e * length (known s) + (field_start program.structs s f + r.place))) whole ∙ got };
      }

-- a view has no more elements than the part of the block has cells
pub small_in : (program : Program) → AreLaid program.structs → (view : View) (first : ℕ) (t : Ty) (count : ℕ) → 1 ≤ count * length (leaves (struct_cells program.structs) Alone t) → IsIn program view first t count
    → view.count ≤ count * length (leaves (struct_cells program.structs) Alone t)
small_in program laid view first t count h (Whole _ _ _ begins names many) = at_least count (length (leaves (struct_cells program.structs) Alone t)) (positive count (length (leaves (struct_cells program.structs) Alone t)) 0 h) many
  where
    at_least : (n l : ℕ) → 1 ≤ l → view.count ≡ n → view.count ≤ n * l
    at_least n zero q e = absurd (omega (arith, q))
    at_least n (suc l) q e = omega (arith, e)
small_in program laid view first t count h (Element _ _ _ s e struct among begins names many) = omega (arith, h, many)
small_in program laid view first t count h (Inside _ _ _ s e f x struct among names inner) =
    let size_is : length (leaves (leaves_below program.structs s) Alone x.ty) ≡ length (leaves (struct_cells program.structs) Alone x.ty) = ap length (cells_known program.structs s f x Alone laid names) in
    let fills : 1 ≤ x.count * length (leaves (struct_cells program.structs) Alone x.ty) = subst (λ (n : ℕ). 1 ≤ x.count * n) size_is (laid.filled s f x names) in
    let ends : field_start program.structs s f + x.count * length (leaves (struct_cells program.structs) Alone x.ty) ≤ length (struct_cells program.structs s) = subst (λ (n : ℕ). field_start program.structs s f + x.count * n ≤ length (struct_cells program.structs s)) size_is (field_end program.structs s f x names) in
    let rest = small_in program laid view _ x.ty x.count fills inner in
    let plain : length (leaves (struct_cells program.structs) Alone t) ≡ length (struct_cells program.structs s) = ap length (struct_leaves (struct_cells program.structs) Alone t s struct) in
    let more : length (struct_cells program.structs s) ≤ count * length (struct_cells program.structs s) = one_of count (length (struct_cells program.structs s)) e among in
    subst (λ (n : ℕ). view.count ≤ count * n) (sym plain) (omega (arith, rest, ends, more))
  where
    one_of : (n l i : ℕ) → i < n → l ≤ n * l
    one_of zero l i q = absurd (omega (arith, q))
    one_of (suc n) l i q = omega arith

-- ---- views of blocks

-- the cell of an element of scalars, or of locks
pub view_leaf : (program : Program) → IsSound program → (b : New) (shape : Shape) (view : View) (ty : Ty) → shape.ty ≡ b.ty → shape.count ≡ b.count → IsViewOf program shape view → slice_get program.types view.ty ≡ Some ty → struct_of ty ≡ None
    → (i : ℕ) → i < view.count → HasLeaf (leaves_of program b) (view.first + i) ty
unfolding leaves_of
view_leaf program sound b shape view ty type_is count_is v viewed lone i h =
    let r = there_in program (laid_out program sound) view ty viewed lone i h 0 v.ty shape.count (type_has_cells program sound shape.ty v.ty v.names) v.part Alone in
    let at : r.place ≡ view.first + i = omega (arith, r.at) in
    let cells : cells_at program b.ty ≡ leaves (struct_cells program.structs) Alone v.ty = cells_of_type program b.ty v.ty (ap (slice_get program.types) (sym type_is) ∙ v.names) in
    record {
      home = r.leaf.home;
      is = ap (λ (xs : List Leaf). slice_get (repeated b.count xs) (view.first + i)) cells ∙ ap (λ (n : ℕ). slice_get (repeated n (leaves (struct_cells program.structs) Alone v.ty)) (view.first + i)) (sym count_is)
          ∙ ap (slice_get (repeated shape.count (leaves (struct_cells program.structs) Alone v.ty))) (sym at) ∙ r.leaf.is;
    }

pub size_by_type : (program : Program) (b : New) (ty : Ty) → slice_get program.types b.ty ≡ Some ty → size_of program b ≡ b.count * length (leaves (struct_cells program.structs) Alone ty)
unfolding leaves_of
size_by_type program b ty names = length-repeated b.count (cells_at program b.ty) ∙ ap (λ (xs : List Leaf). b.count * length xs) (cells_of_type program b.ty ty names)
