-- How the structs of a sound program are laid out.
use Rattle.std.proofs.Common.{◌≡◌, ℕ, zero, suc, ◌*◌, ◌<◌, ◌≤◌, ◌⊎◌, inl, inr, List, [], ◌∷◌, length, map, Bool, true, false, nat_lt, IsTrue, ◌↔◌, slice_get, get_or, Option, Some, None, refl, sym, ap, subst, ◌∙◌, arith}
use Rattle.std.proofs.lemmas.Option.{slice_get_cases}
use Rattle.std.proofs.lemmas.Nat.{mul-le}
use Rattle.mdr_core.specs.declared.types.Ty.{Ty, out-Ty}
use Rattle.mdr_core.specs.declared.types.Ty.TheOpen.{Ty-F}
use Rattle.mdr_core.specs.declared.types.Ty.TheFolds.{fold_out-Ty, map-Ty}
use Rattle.mdr_core.specs.declared.program.Field.{Field}
use Rattle.mdr_core.specs.declared.program.StructDef.{StructDef}
use Rattle.mdr_core.specs.declared.program.Program.{Program}
use Rattle.mdr_core.specs.declared.types.Shape.{Shape}
use Rattle.mdr_core.specs.declared.value.View.{View}
use Rattle.mdr_core.specs.Layout.{chosen, Leaf, Home, Alone, leaves, leaves_by, leaves_below, struct_by, struct_of, struct_cells, fields_of, fields_or}
use Rattle.mdr_core.specs.Sound.{IsSound, IsSoundField, IsObjectSort, Sibling, sibling_field}
use Rattle.mdr_core.specs.Types.{Sort, Aggregate, Wrong, sort_of, sort_layer}
use Rattle.mdr_core.specs.Views.{AreLaid, HasCells, IsIn, IsViewOf}
use Rattle.mdr_core.proofs.Lying.{is_below}
use Rattle.mdr_core.proofs.Viewed.{field_end, some_same}

-- the sort of a type from one level of it
pub sort_is : (n : ℕ) (ty : Ty) → sort_of n ty ≡ sort_layer n (map-Ty Ty Sort (sort_of n) (out-Ty ty))
unfolding sort_of
sort_is n ty = fold_out-Ty Sort (sort_layer n) ty

-- an element of an object's type has a cell
has_cell_by : (known : ℕ → List Leaf) (home : Home) (n : ℕ) (ty : Ty) (t : Ty-F Ty) → IsObjectSort (sort_layer n (map-Ty Ty Sort (sort_of n) t)) → ((m : ℕ) → struct_by t ≡ Some m → 1 ≤ length (known m)) → 1 ≤ length (leaves_by known home ty t)
has_cell_by known home n ty (Ty-F.Int k) h s = omega arith
has_cell_by known home n ty Ty-F.Lock h s = omega arith
has_cell_by known home n ty (Ty-F.Struct m) h s = s m refl
has_cell_by known home n ty (Ty-F.Ptr t) h s = omega arith
has_cell_by known home n ty Ty-F.VoidPtr h s = omega arith
has_cell_by known home n ty (Ty-F.Fun ts) h s = omega arith
has_cell_by known home n ty Ty-F.Void (inl e) s = cc
has_cell_by known home n ty Ty-F.Void (inr (inl e)) s = cc
has_cell_by known home n ty Ty-F.Void (inr (inr e)) s = cc

pub has_cell : (known : ℕ → List Leaf) (home : Home) (n : ℕ) (ty : Ty) → IsObjectSort (sort_of n ty) → ((m : ℕ) → struct_of ty ≡ Some m → 1 ≤ length (known m)) → 1 ≤ length (leaves known home ty)
unfolding leaves
has_cell known home n ty h s = has_cell_by known home n ty (out-Ty ty) (subst IsObjectSort (sort_is n ty) h) s

-- a field of a struct is sound
field_of_by : (program : Program) → IsSound program → (s f : ℕ) (x : Field) → slice_get (fields_of program.structs s) f ≡ Some x →
    ((def : StructDef) × (s < length program.structs) × (slice_get program.structs s ≡ Some def) × (get_or program.structs s def ≡ def)) ⊎ ((length program.structs ≤ s) × (slice_get program.structs s ≡ None)) → (siblings : List Sibling) × IsSoundField program s siblings x
field_of_by program sound s f x names (inl h) = (map sibling_field h.0.fields, (sound.structs s h.0 h.2).fields f x (sym (ap (λ (o : Option StructDef). slice_get (fields_or o) f) h.2) ∙ names))
field_of_by program sound s f x names (inr h) = let none : None ≡ Some x = sym (ap (λ (o : Option StructDef). slice_get (fields_or o) f) h.1) ∙ names in cc

field_of : (program : Program) → IsSound program → (s f : ℕ) (x : Field) → slice_get (fields_of program.structs s) f ≡ Some x → (siblings : List Sibling) × IsSoundField program s siblings x
field_of program sound s f x names = field_of_by program sound s f x names (slice_get_cases program.structs s).1

times : (n m : ℕ) → 1 ≤ n → 1 ≤ m → 1 ≤ n * m
times n m p q = let le = mul-le 1 1 n m p q in omega arith

field_filled : (program : Program) → IsSound program → (s f : ℕ) (x : Field) → ((m : ℕ) → m < s → 1 ≤ length (struct_cells program.structs m)) → slice_get (fields_of program.structs s) f ≡ Some x → 1 ≤ x.count * length (leaves (leaves_below program.structs s) Alone x.ty)
field_filled program sound s f x lower names =
    let field = (field_of program sound s f x names).1 in
    let cells = has_cell (leaves_below program.structs s) Alone (length program.structs) x.ty field.sort (λ m is. subst (λ (ys : List Leaf). 1 ≤ length ys) (sym (is_below program.structs s m (field.lower m is))) (lower m (field.lower m is))) in
    times x.count (length (leaves (leaves_below program.structs s) Alone x.ty)) field.count.some cells

first_of_some : {A : Type 0} (xs : List A) → 1 ≤ length xs → (x : A) × (slice_get xs 0 ≡ Some x)
first_of_some [] h = absurd (omega arith)
first_of_some (x ∷ xs) h = (x, refl)

struct_filled_by : (program : Program) → IsSound program → (s : ℕ) → ((m : ℕ) → m < s → 1 ≤ length (struct_cells program.structs m)) →
    ((def : StructDef) × (s < length program.structs) × (slice_get program.structs s ≡ Some def) × (get_or program.structs s def ≡ def)) ⊎ ((length program.structs ≤ s) × (slice_get program.structs s ≡ None)) → s < length program.structs → 1 ≤ length (struct_cells program.structs s)
struct_filled_by program sound s lower (inl h) within =
    let first = first_of_some h.0.fields (sound.structs s h.0 h.2).some in
    let names : slice_get (fields_of program.structs s) 0 ≡ Some first.0 = ap (λ (o : Option StructDef). slice_get (fields_or o) 0) h.2 ∙ first.1 in
    let filled = field_filled program sound s 0 first.0 lower names in
    let end = field_end program.structs s 0 first.0 names in
    omega arith
struct_filled_by program sound s lower (inr h) within = absurd (omega (arith, h.0))

-- each struct has a cell
struct_filled : (program : Program) → IsSound program → (n s : ℕ) → s < n → s < length program.structs → 1 ≤ length (struct_cells program.structs s)
struct_filled program sound zero s h within = absurd (omega arith)
struct_filled program sound (suc n) s h within = struct_filled_by program sound s (λ m below. struct_filled program sound n m (omega arith) (omega arith)) (slice_get_cases program.structs s).1 within

within_by : (program : Program) (s f : ℕ) (x : Field) → slice_get (fields_of program.structs s) f ≡ Some x →
    ((def : StructDef) × (s < length program.structs) × (slice_get program.structs s ≡ Some def) × (get_or program.structs s def ≡ def)) ⊎ ((length program.structs ≤ s) × (slice_get program.structs s ≡ None)) → s < length program.structs
within_by program s f x names (inl h) = h.1
within_by program s f x names (inr h) = let none : None ≡ Some x = sym (ap (λ (o : Option StructDef). slice_get (fields_or o) f) h.1) ∙ names in absurd (not_none none)
  where
    not_none : None ≡ Some x → ⊥
    not_none e = cc

-- the structs of a sound program
pub laid_out : (program : Program) → IsSound program → AreLaid program.structs
laid_out program sound = record {
  small = sound.small;
  few = sound.few;
  lower = λ s f m x names is. (field_of program sound s f x names).1.lower m is;
  filled = λ s f x names.
      let within = within_by program s f x names (slice_get_cases program.structs s).1 in
      field_filled program sound s f x (λ m below. struct_filled program sound (suc m) m (omega arith) (omega arith)) names;
}

struct_within_by : (n : ℕ) (t : Ty-F Ty) (m : ℕ) (b : Bool) → nat_lt m n ≡ b → IsObjectSort (sort_layer n (map-Ty Ty Sort (sort_of n) t)) → struct_by t ≡ Some m → m < n
struct_within_by n (Ty-F.Int k) m b e h s = cc
struct_within_by n Ty-F.Lock m b e h s = cc
struct_within_by n (Ty-F.Struct k) m b e h s = let same : k ≡ m = some_same s in named n m b e (subst (λ i. IsObjectSort (chosen (nat_lt i n) Aggregate Wrong)) same h)
  where
    none : IsObjectSort Wrong → ⊥
    none (inl w) = cc
    none (inr (inl w)) = cc
    none (inr (inr w)) = cc

    named : (n m : ℕ) (b : Bool) → nat_lt m n ≡ b → IsObjectSort (chosen (nat_lt m n) Aggregate Wrong) → m < n
    named n m true e h = grind arith
    named n m false e h = absurd (none (subst (λ b. IsObjectSort (chosen b Aggregate Wrong)) e h))
struct_within_by n (Ty-F.Ptr t) m b e h s = cc
struct_within_by n Ty-F.VoidPtr m b e h s = cc
struct_within_by n (Ty-F.Fun ts) m b e h s = cc
struct_within_by n Ty-F.Void m b e h s = cc

-- a struct that is an object's type is one of the program's
pub struct_within : (n : ℕ) (ty : Ty) (m : ℕ) → IsObjectSort (sort_of n ty) → struct_of ty ≡ Some m → m < n
struct_within n ty m h s = struct_within_by n (out-Ty ty) m (nat_lt m n) refl (subst IsObjectSort (sort_is n ty) h) s

-- each type of the table has a cell
pub type_has_cells : (program : Program) → IsSound program → (i : ℕ) (ty : Ty) → slice_get program.types i ≡ Some ty → HasCells program.structs ty
type_has_cells program sound i ty names = record {
  some = has_cell (struct_cells program.structs) Alone (length program.structs) ty (sound.table.formed i ty names)
      (λ m is. struct_filled program sound (suc m) m (omega arith) (struct_within (length program.structs) ty m (sound.table.formed i ty names) is));
}

pub view_right : (program : Program) (shape : Shape) (view : View) (ty : Ty) (b : Bool) → slice_get program.types shape.ty ≡ Some ty → view.index ≤ view.count → (IsTrue b ↔ IsIn program view 0 ty shape.count) → IsTrue b ↔ IsViewOf program shape view
view_right program shape view ty b names inside i = (λ h. record { ty = ty; names = names; part = i.0 h; inside = inside }, λ v. i.1 (subst (λ t. IsIn program view 0 t shape.count) (some_same (sym v.names ∙ names)) v.part))
