-- What the types of a file's declarations are.
use Rattle.std.proofs.Common.{◌≡◌, ℕ, zero, suc, ◌<◌, ◌⊎◌, Bool, true, not, List, [], ◌∷◌, ◌++◌, map, Option, Some, None, is_some, refl, sym, ap, subst, ◌∙◌, option_map}
use Rattle.std.specs.Prelude.{◌&&◌, ◌||◌, ◌==◌, length}
use Rattle.std.specs.List.{list_all}
use Rattle.mdr_core.specs.declared.place.Place.{Place}
use Rattle.mdr_core.specs.declared.types.Ty.{Ty}
use Rattle.mdr_core.specs.declared.types.Ty.TheVariants as type
use Rattle.mdr_core.specs.Types.{Sort, Scalar, sort_of, is_scalar_sort, is_scalar}
use Rattle.mdr_syntax.specs.declared.tree.Base.{Base}
use Rattle.mdr_syntax.specs.declared.tree.Base.TheVariants as base
use Rattle.mdr_syntax.specs.declared.tree.Decl.{Decl}
use Rattle.mdr_syntax.specs.declared.tree.Decl.TheOpen.{Decl-F}
use Rattle.mdr_syntax.specs.declared.tree.Decl.TheFolds.{ind-Decl, map-Decl, fold-roll-Decl}
use Rattle.mdr_faults.specs.declared.fault.FaultKind.TheVariants.{Mismatch, Limit}
use Rattle.mdr_faults.specs.declared.scope.Scope.{Scope}
use Rattle.mdr_faults.specs.declared.scope.Tag.{Tag}
use Rattle.mdr_faults.specs.Declarations.{Declarator, declarator, declarator_by, declarator_layer, declarator_type, base_type, struct_named, starred, pointer_to, type_named, result_type, parameter_type, parameter_among, parameter_list, is_void}
use Rattle.mdr_faults.specs.Faults.{Checked, Right, after}
use Rattle.mdr_faults.specs.Scopes.{tag_named}
use Rattle.mdr_sound.proofs.Alike.{left_of}
use Rattle.mdr_sound.proofs.Rights.{after_right, both_right, same_right, demand_right, chosen_right, not_right}
use Rattle.mdr_sound.specs.Declared.{IsSomeSort}
pub use Rattle.mdr_sound.specs.Declared.{AreNumbered}
use Rattle.mdr_sound.proofs.Layers.{sort_int, sort_lock}
use Rattle.mdr_sound.proofs.Sorts.{struct_aggregate, void_sort, pointer_some, scalar_sort, result_sort, is_result, handle_sort}

-- ---- types without parameters

struct_some : (scope : Scope) (n : ℕ) (p : Place) (o : Option Tag) (t : Ty) → ((g : Tag) → o ≡ Some g → g.number < n) → struct_named p o ≡ Right t → IsSomeSort (sort_of n t)
struct_some scope n p None t low e = not_right _ t e
struct_some scope n p (Some g) t low e = subst (λ (u : Ty). IsSomeSort (sort_of n u)) (same_right (type.Struct g.number) t e) (subst IsSomeSort (sym (struct_aggregate n g.number (low g refl))) tt)

base_some : (scope : Scope) (n : ℕ) (b : Base) (t : Ty) → AreNumbered scope n → base_type scope b ≡ Right t → IsSomeSort (sort_of n t)
base_some scope n (base.Int k) t low e = subst (λ (u : Ty). IsSomeSort (sort_of n u)) (same_right (type.Int k) t e) (subst IsSomeSort (sym (sort_int n k)) tt)
base_some scope n (base.Struct p name) t low e = struct_some scope n p (tag_named scope name) t (low.below name) e
base_some scope n base.Void t low e = subst (λ (u : Ty). IsSomeSort (sort_of n u)) (same_right type.Void t e) (subst IsSomeSort (sym (void_sort n)) tt)
base_some scope n base.Lock t low e = subst (λ (u : Ty). IsSomeSort (sort_of n u)) (same_right type.Lock t e) (subst IsSomeSort (sym (sort_lock n)) tt)

starred_some : (n stars : ℕ) (t : Ty) → IsSomeSort (sort_of n t) → IsSomeSort (sort_of n (starred stars t))
unfolding starred
starred_some n zero t h = h
starred_some n (suc k) t h = starred_some n k (pointer_to t) (pointer_some n t h)

pub type_named_some : (scope : Scope) (n : ℕ) (b : Base) (stars : ℕ) (t : Ty) → AreNumbered scope n → type_named scope b stars ≡ Right t → IsSomeSort (sort_of n t)
type_named_some scope n b stars t low e =
    let a = after_right (base_type scope b) (λ u. Right (starred stars u)) t e in
    subst (λ (u : Ty). IsSomeSort (sort_of n u)) (same_right (starred stars a.value) t a.made) (starred_some n stars a.value (base_some scope n b a.value low a.right))

-- ---- results and parameters

pub result_type_is : (n : ℕ) (p : Place) (u t : Ty) → IsSomeSort (sort_of n u) → result_type p u ≡ Right t → (sort_of n t ≡ Scalar) ⊎ (t ≡ type.Void)
result_type_is n p u t h e =
    let d = chosen_right (is_scalar u || is_void u) (Right u) p Mismatch t e in
    subst (λ (v : Ty). (sort_of n v ≡ Scalar) ⊎ (v ≡ type.Void)) (same_right u t d.right) (result_sort n u h d.holds)

pub parameter_type_is : (n : ℕ) (p : Place) (array : Bool) (u t : Ty) → IsSomeSort (sort_of n u) → parameter_type p array u ≡ Right t → sort_of n t ≡ Scalar
parameter_type_is n p array u t h e =
    let d = chosen_right (is_scalar u && not array) (Right u) p Mismatch t e in
    subst (λ (v : Ty). sort_of n v ≡ Scalar) (same_right u t d.right) (scalar_sort n u (left_of (is_scalar u) (not array) d.holds) h)

-- ---- declarators

pub record IsGoodDeclarator (n : ℕ) (d : Declarator) : Type 0 where
  pub whole : (t : Ty) → d.whole ≡ Right t → IsSomeSort (sort_of n t)
  pub parameter : (t : Ty) → d.parameter ≡ Right t → sort_of n t ≡ Scalar

abbrev AreGood : ℕ → List Declarator → Type 0
AreGood n [] = Unit {0}
AreGood n (d ∷ ds) = IsGoodDeclarator n d × AreGood n ds

pub parameter_among_is : (n : ℕ) (before : List Declarator) (d : Declarator) (t : Ty) → IsGoodDeclarator n d → parameter_among before d ≡ Right t → sort_of n t ≡ Scalar
parameter_among_is n before d t g e =
    let b = demand_right d.place Limit (not (length before == 8)) d.parameter t e in
    g.parameter t b.right

one_scalar : (n : ℕ) (t : Ty) (ts us : List Ty) → sort_of n t ≡ Scalar → list_all is_scalar_sort (map (sort_of n) ts) ≡ true → t ∷ ts ≡ us → list_all is_scalar_sort (map (sort_of n) us) ≡ true
one_scalar n t ts us e f same = subst (λ (vs : List Ty). list_all is_scalar_sort (map (sort_of n) vs) ≡ true) same (ap (λ (s : Sort). is_scalar_sort s && list_all is_scalar_sort (map (sort_of n) ts)) e ∙ f)

parameters_are : (n : ℕ) (before ds : List Declarator) (ts : List Ty) → AreGood n ds → parameter_list before ds ≡ Right ts → list_all is_scalar_sort (map (sort_of n) ts) ≡ true
unfolding parameter_list
parameters_are n before [] ts g e = subst (λ (vs : List Ty). list_all is_scalar_sort (map (sort_of n) vs) ≡ true) (same_right [] ts e) refl
parameters_are n before (d ∷ ds) ts g e =
    let b = both_right (parameter_among before d) (parameter_list (before ++ d ∷ []) ds) (λ x xs. Right (x ∷ xs)) ts e in
    one_scalar n b.left b.right ts (parameter_among_is n before d b.left g.0 b.first) (parameters_are n (before ++ d ∷ []) ds b.right g.1 b.second) (same_right (b.left ∷ b.right) ts b.made)

abbrev PerhapsGood : ℕ → Option (List Declarator) → Type 0
PerhapsGood n None = Unit {0}
PerhapsGood n (Some ds) = AreGood n ds

declarator_by_some : (n : ℕ) (c : Checked Ty) (p : Place) (o : Option (List Declarator)) (t : Ty) → ((u : Ty) → c ≡ Right u → IsSomeSort (sort_of n u)) → PerhapsGood n o → declarator_by c p o ≡ Right t → IsSomeSort (sort_of n t)
declarator_by_some n c p None t some g e = some t e
declarator_by_some n c p (Some ds) t some g e =
    let b = both_right (after c (result_type p)) (parameter_list [] ds) (λ r ps. Right (type.Fun (r ∷ ps))) t e in
    let a = after_right c (result_type p) b.left b.first in
    let result = result_type_is n p a.value b.left (some a.value a.right) a.made in
    let sort = handle_sort n b.left b.right (is_result n b.left result) (parameters_are n [] ds b.right g b.second) in
    subst (λ (u : Ty). IsSomeSort (sort_of n u)) (same_right (type.Fun (b.left ∷ b.right)) t b.made) (subst IsSomeSort (sym sort) tt)

declarator_type_some : (scope : Scope) (n : ℕ) (l : Decl-F Declarator) (t : Ty) → AreNumbered scope n → PerhapsGood n l.fun → declarator_type scope l ≡ Right t → IsSomeSort (sort_of n t)
declarator_type_some scope n l t low g e = declarator_by_some n (type_named scope l.base l.stars) l.place l.fun t (λ u k. type_named_some scope n l.base l.stars u low k) g e

layer_good : (scope : Scope) (n : ℕ) (l : Decl-F Declarator) → AreNumbered scope n → PerhapsGood n l.fun → IsGoodDeclarator n (declarator_layer scope l)
layer_good scope n l low g = record {
  whole = λ t e. declarator_type_some scope n l t low g e;
  parameter = λ t e.
      let a = after_right (declarator_type scope l) (parameter_type l.place (is_some l.size)) t e in
      parameter_type_is n l.place (is_some l.size) a.value t (declarator_type_some scope n l a.value low g a.right) a.made;
}

-- ---- by the parameters within

mapped : {X Y : Type 0} (f : X → Y) (x : Decl-F X) (fun : Option (List X)) → x.fun ≡ fun → (map-Decl X Y f x).fun ≡ option_map (map f) x.fun
mapped f x None e = rw e refl
mapped f x (Some ds) e = rw e refl

twice : {X Y : Type 0} (of : X → Decl) (f : Decl → Y) (l : Decl-F X) → (map-Decl Decl Y f (map-Decl X Decl of l)).fun ≡ option_map (map f) (option_map (map of) l.fun)
twice {X} {Y} of f l = mapped f (map-Decl X Decl of l) (map-Decl X Decl of l).fun refl ∙ ap (option_map (map f)) (mapped of l l.fun refl)

record GoodDecl (scope : Scope) (n : ℕ) (d : Decl) : Type 0 where
  by : IsGoodDeclarator n (declarator scope d)

all_good : {X : Type 0} (scope : Scope) (n : ℕ) (of : X → Decl) → ((x : X) → GoodDecl scope n (of x)) → (xs : List X) → AreGood n (map (declarator scope) (map of xs))
all_good scope n of good [] = tt
all_good scope n of good (x ∷ xs) = ((good x).by, all_good scope n of good xs)

perhaps_good : {X : Type 0} (scope : Scope) (n : ℕ) (of : X → Decl) → ((x : X) → GoodDecl scope n (of x)) → (o : Option (List X)) → PerhapsGood n (option_map (map (declarator scope)) (option_map (map of) o))
perhaps_good scope n of good None = tt
perhaps_good scope n of good (Some xs) = all_good scope n of good xs

abbrev Layer : Scope → ℕ → Decl-F Decl → Type 0
Layer scope n l = IsGoodDeclarator n (declarator_layer scope (map-Decl Decl Declarator (declarator scope) l))

layer_is : {X : Type 0} (scope : Scope) (n : ℕ) (of : X → Decl) → AreNumbered scope n → ((x : X) → GoodDecl scope n (of x)) → (l : Decl-F X) → Layer scope n (map-Decl X Decl of l)
layer_is {X} scope n of low good l = layer_good scope n (map-Decl Decl Declarator (declarator scope) (map-Decl X Decl of l)) low (subst (PerhapsGood n) (sym (twice of (declarator scope) l)) (perhaps_good scope n of good l.fun))

good_decls : (scope : Scope) (n : ℕ) → AreNumbered scope n → (d : Decl) → GoodDecl scope n d
good_decls scope n low = ind-Decl (GoodDecl scope n) (λ x y is. record {
  by = subst (IsGoodDeclarator n) (sym (fold-roll-Decl Declarator (declarator_layer scope) x)) (subst (Layer scope n) is (layer_is scope n (λ e. e.0) low (λ e. e.1) y));
})

-- a declarator names `void` or a type of objects, and as a parameter a scalar
pub declarator_good : (scope : Scope) (n : ℕ) (d : Decl) → AreNumbered scope n → IsGoodDeclarator n (declarator scope d)
declarator_good scope n d low = (good_decls scope n low d).by

goods : (scope : Scope) (n : ℕ) → AreNumbered scope n → (ds : List Decl) → AreGood n (map (declarator scope) ds)
goods scope n low [] = tt
goods scope n low (d ∷ ds) = (declarator_good scope n d low, goods scope n low ds)

-- the types of a function's parameters are scalars
pub parameter_list_is : (scope : Scope) (n : ℕ) (ds : List Decl) (ts : List Ty) → AreNumbered scope n → parameter_list [] (map (declarator scope) ds) ≡ Right ts → list_all is_scalar_sort (map (sort_of n) ts) ≡ true
parameter_list_is scope n ds ts low e = parameters_are n [] (map (declarator scope) ds) ts (goods scope n low ds) e
