-- What fields, globals and locals are declared as.
use Rattle.std.proofs.Common.{◌≡◌, ℕ, zero, suc, ◌*◌, ◌<◌, ◌≤◌, Bool, true, false, nat_lt, ℤ, pos, negsuc, List, length, Option, Some, None, is_some, Ok, slice_get, refl, sym, ap, subst, arith}
use Rattle.std.specs.Prelude.{◌||◌}
use Rattle.std.proofs.lemmas.Option.{slice_get_within}
use Rattle.mdr_core.specs.declared.place.Place.{Place}
use Rattle.mdr_core.specs.declared.program.Program.{Program}
use Rattle.mdr_core.specs.declared.types.Ty.{Ty, out-Ty}
use Rattle.mdr_core.specs.declared.types.Ty.TheOpen.{Ty-F}
use Rattle.mdr_core.specs.Layout.{Leaf, Home, Alone, leaves, leaves_by, cells, struct_by, struct_of, struct_cells as cells_of_struct}
use Rattle.mdr_core.specs.Sound.{IsCount}
use Rattle.mdr_core.proofs.Lying.{length-repeated}
use Rattle.mdr_core.proofs.Viewed.{some_same}
use Rattle.mdr_syntax.specs.declared.tree.Const.{Const}
use Rattle.mdr_syntax.specs.declared.tree.Decl.{Decl, out-Decl}
use Rattle.mdr_faults.specs.declared.fault.FaultKind.TheVariants.{Limit}
use Rattle.mdr_faults.specs.declared.scope.Object.{Object}
use Rattle.mdr_faults.specs.declared.scope.Scope.{Scope}
use Rattle.mdr_faults.specs.declared.scope.StructEntry.{StructEntry}
use Rattle.mdr_faults.specs.Declarations.{declarator, constant, element_count, count_of, struct_cells, cells_by, cells_of, sized, object_of, object_declared, is_void, is_void_by}
use Rattle.mdr_faults.specs.Faults.{Right}
use Rattle.mdr_sound.proofs.Rights.{after_right, both_right, same_right, refused_right, again_right, not_right}
use Rattle.mdr_sound.specs.Declared.{IsSoundObject, AreNumbered}
use Rattle.mdr_sound.specs.Standing.{Stands}
use Rattle.mdr_sound.proofs.Sorts.{object_sort}
use Rattle.mdr_sound.proofs.NamedTypes.{declarator_good}

-- ---- the parts of a declaration

pub record IsDeclaredAs (scope : Scope) (limit : Place) (d : Decl) (o : Object) : Type 0 where
  pub whole : (declarator scope d).whole ≡ Right o.ty
  pub counted : count_of scope (out-Decl d).place (out-Decl d).size ≡ Right o.count
  pub array : is_some (out-Decl d).size ≡ o.array
  pub element : ℕ
  pub cells : cells_of scope (out-Decl d).place o.ty ≡ Right element
  pub small : o.count * element ≤ 65536

no_more : (a b : ℕ) → (nat_lt 65536 a || nat_lt 65536 b) ≡ false → b ≤ 65536
no_more a b e = by (nat_lt 65536 a) (nat_lt 65536 b) refl e
  where
    by : (x y : Bool) → nat_lt 65536 b ≡ y → (x || y) ≡ false → b ≤ 65536
    by true y f e = cc
    by false true f e = cc
    by false false f e = grind (arith, f)

pub declared_as : (scope : Scope) (limit : Place) (d : Decl) (o : Object) → object_declared scope limit d ≡ Right o → IsDeclaredAs scope limit d o
unfolding object_declared
declared_as scope limit d o e =
    let b = both_right (declarator scope d).whole (count_of scope (out-Decl d).place (out-Decl d).size) (λ t n. object_of scope (out-Decl d).place limit t (is_some (out-Decl d).size) n) o e in
    let a = after_right (cells_of scope (out-Decl d).place b.left) (sized limit b.left (is_some (out-Decl d).size) b.right) o b.made in
    let r = refused_right (nat_lt 65536 b.right || nat_lt 65536 (b.right * a.value)) (Right (record { ty = b.left; count = b.right; array = is_some (out-Decl d).size })) limit Limit o a.made in
    let same : record { ty = b.left; count = b.right; array = is_some (out-Decl d).size } ≡ o = same_right _ o r.right in
    subst (IsDeclaredAs scope limit d) same (record {
      whole = b.first;
      counted = b.second;
      array = refl;
      element = a.value;
      cells = a.right;
      small = no_more b.right (b.right * a.value) r.fails;
    })

-- ---- how many elements

element_some : (p : Place) (z : ℤ) (n : ℕ) → element_count p z ≡ Right n → 1 ≤ n
element_some p (pos zero) n e = not_right _ n e
element_some p (pos (suc m)) n e = subst (λ (k : ℕ). 1 ≤ k) (same_right (suc m) n e) (omega arith)
element_some p (negsuc m) n e = not_right _ n e

pub count_is : (scope : Scope) (p : Place) (size : Option Const) (n : ℕ) → count_of scope p size ≡ Right n → IsCount (is_some size) n
count_is scope p None n e = let one : 1 ≡ n = same_right 1 n e in record { some = subst (λ (k : ℕ). 1 ≤ k) one (omega arith); single = λ f. sym one }
count_is scope p (Some c) n e =
    let a = after_right (constant scope p c) (λ c. element_count p c.number) n e in
    record { some = element_some p a.value.number n a.made; single = λ f. absurd (not_false f) }
  where
    not_false : true ≡ false → ⊥
    not_false f = cc

-- ---- how many cells

-- an object's type isn't `void`
no_void_by : (scope : Scope) (p : Place) (l : Ty-F Ty) (n : ℕ) → cells_by scope p l ≡ Right n → is_void_by l ≡ false
no_void_by scope p (Ty-F.Int k) n e = refl
no_void_by scope p Ty-F.Lock n e = refl
no_void_by scope p (Ty-F.Struct s) n e = refl
no_void_by scope p (Ty-F.Ptr t) n e = refl
no_void_by scope p Ty-F.VoidPtr n e = refl
no_void_by scope p (Ty-F.Fun ts) n e = refl
no_void_by scope p Ty-F.Void n e = not_right _ n e

pub no_void : (scope : Scope) (p : Place) (t : Ty) (n : ℕ) → cells_of scope p t ≡ Right n → is_void t ≡ false
no_void scope p t n e = no_void_by scope p (out-Ty t) n e

-- a struct that is complete
pub record IsComplete (scope : Scope) (s n : ℕ) : Type 0 where
  pub entry : StructEntry
  pub names : slice_get scope.structs s ≡ Some entry
  pub cells : entry.cells ≡ Ok n

pub complete : (scope : Scope) (p : Place) (s n : ℕ) → struct_cells p (slice_get scope.structs s) ≡ Right n → IsComplete scope s n
complete scope p s n e = by (slice_get scope.structs s) refl e
  where
    by : (o : Option StructEntry) → slice_get scope.structs s ≡ o → struct_cells p o ≡ Right n → IsComplete scope s n
    by None f e = not_right _ n e
    by (Some x) f e = record { entry = x; names = f; cells = again_right x.cells n e }

lower_by : (scope : Scope) (p : Place) (l : Ty-F Ty) (n s : ℕ) → cells_by scope p l ≡ Right n → struct_by l ≡ Some s → s < length scope.structs
lower_by scope p (Ty-F.Int k) n s e f = cc
lower_by scope p Ty-F.Lock n s e f = cc
lower_by scope p (Ty-F.Struct r) n s e f = let c = complete scope p r n e in subst (λ (k : ℕ). k < length scope.structs) (some_same f) (slice_get_within scope.structs r c.entry c.names)
lower_by scope p (Ty-F.Ptr t) n s e f = cc
lower_by scope p Ty-F.VoidPtr n s e f = cc
lower_by scope p (Ty-F.Fun ts) n s e f = cc
lower_by scope p Ty-F.Void n s e f = cc

pub lower : (scope : Scope) (p : Place) (t : Ty) (n s : ℕ) → cells_of scope p t ≡ Right n → struct_of t ≡ Some s → s < length scope.structs
lower scope p t n s e f = lower_by scope p (out-Ty t) n s e f

-- the cells of structs that are complete are known
pub record KnowsSizes (scope : Scope) (known : ℕ → List Leaf) : Type 0 where
  pub sizes : (s n : ℕ) (entry : StructEntry) → slice_get scope.structs s ≡ Some entry → entry.cells ≡ Ok n → length (known s) ≡ n

sized_by : (scope : Scope) (known : ℕ → List Leaf) (home : Home) (p : Place) (t : Ty) (l : Ty-F Ty) (n : ℕ) → KnowsSizes scope known → cells_by scope p l ≡ Right n → n ≡ length (leaves_by known home t l)
sized_by scope known home p t (Ty-F.Int k) n h e = sym (same_right 1 n e)
sized_by scope known home p t Ty-F.Lock n h e = sym (same_right 1 n e)
sized_by scope known home p t (Ty-F.Struct s) n h e = let c = complete scope p s n e in sym (h.sizes s n c.entry c.names c.cells)
sized_by scope known home p t (Ty-F.Ptr u) n h e = sym (same_right 1 n e)
sized_by scope known home p t Ty-F.VoidPtr n h e = sym (same_right 1 n e)
sized_by scope known home p t (Ty-F.Fun ts) n h e = sym (same_right 1 n e)
sized_by scope known home p t Ty-F.Void n h e = not_right _ n e

pub sized_is : (scope : Scope) (known : ℕ → List Leaf) (home : Home) (p : Place) (t : Ty) (n : ℕ) → KnowsSizes scope known → cells_of scope p t ≡ Right n → n ≡ length (leaves known home t)
unfolding leaves
sized_is scope known home p t n h e = sized_by scope known home p t (out-Ty t) n h e

pub sizes_known : (program : Program) (scope : Scope) → Stands program scope → KnowsSizes scope (cells_of_struct program.structs)
sizes_known program scope st = record { sizes = st.sizes }

pub tags_numbered : (program : Program) (scope : Scope) → Stands program scope → AreNumbered scope (length program.structs)
tags_numbered program scope st = record { below = st.knows.tags }

cells_are : (program : Program) (scope : Scope) (p : Place) (t : Ty) (n : ℕ) → Stands program scope → cells_of scope p t ≡ Right n → n ≡ length (cells program t)
unfolding cells
cells_are program scope p t n st e = sized_is scope (cells_of_struct program.structs) Alone p t n (sizes_known program scope st) e

-- ---- objects

pub object_sound : (program : Program) (scope : Scope) (limit : Place) (d : Decl) (o : Object) → Stands program scope → object_declared scope limit d ≡ Right o → IsSoundObject program scope o
object_sound program scope limit d o st e =
    let a = declared_as scope limit d o e in
    let p = (out-Decl d).place in
    let some = (declarator_good scope (length program.structs) d (tags_numbered program scope st)).whole o.ty a.whole in
    let one = cells_are program scope p o.ty a.element st a.cells in
    let all = length-repeated o.count (cells program o.ty) in
    let product : o.count * a.element ≡ o.count * length (cells program o.ty) = ap (λ (n : ℕ). o.count * n) one in
    let most = a.small in
    record {
      sort = object_sort (length program.structs) o.ty (no_void scope p o.ty a.element a.cells) some;
      count = subst (λ (b : Bool). IsCount b o.count) a.array (count_is scope p (out-Decl d).size o.count a.counted);
      small = omega arith;
      lower = λ s f. lower scope p o.ty a.element s a.cells f;
    }
