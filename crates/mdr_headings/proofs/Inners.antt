-- Declarators with the annotations within them, as their parts.
use Rattle.std.proofs.Common.{ℕ, ◌≡◌, ◌<◌, ◌+◌, List, [], ◌∷◌, ◌++◌, map, take, drop, length, get_or, refl, ap, sym, ◌∙◌, subst, Option, Some, None, Result}
use Rattle.std.specs.Option.{option_map}
use Rattle.mdr_core.specs.declared.types.Ann.{Ann}
use Rattle.mdr_syntax.specs.declared.tree.Decl.{Decl, out-Decl, roll-Decl}
use Rattle.mdr_syntax.specs.declared.tree.Decl.TheFolds.{ind-Decl, map-Decl, fold-roll-Decl, fold_out-Decl}
use Rattle.mdr_syntax.specs.declared.tree.Decl.TheOpen.{Decl-F}
use Rattle.mdr_faults.specs.declared.fault.Fault.{Fault}
use Rattle.mdr_faults.specs.declared.scope.Candidate.{Candidate}
use Rattle.mdr_faults.specs.declared.scope.Scope.{Scope}
use Rattle.mdr_faults.specs.Faults.{told, followed, extended, next}
use Rattle.mdr_faults.proofs.Gathered.{one_behind}
use Rattle.mdr_headings.specs.Annotations.{candidate}
use Rattle.mdr_headings.specs.Within.{Inner, beside, names_around, own_annotation, inner_among, inner_list, inner_siblings, inner_by, inner_layer, inner, within}

-- ---- a declaration beside its annotations is itself

mapped : {X Y : Type 0} (f : X → Y) (x : Decl-F X) (fun : Option (List X)) → x.fun ≡ fun → (map-Decl X Y f x).fun ≡ option_map (map f) x.fun
mapped f x None e = rw e refl
mapped f x (Some ds) e = rw e refl

record Kept (scope : Scope) (d : Decl) : Type 0 where
  by : (inner scope d).decl ≡ d

all_kept : {X : Type 0} (scope : Scope) (of : X → Decl) → ((x : X) → Kept scope (of x)) → (xs : List X) → map (λ (y : Inner). y.decl) (map (inner scope) (map of xs)) ≡ map of xs
all_kept scope of kept [] = refl
all_kept scope of kept (x ∷ xs) = λ i. (kept x).by i ∷ all_kept scope of kept xs i

perhaps_kept : {X : Type 0} (scope : Scope) (of : X → Decl) → ((x : X) → Kept scope (of x)) → (o : Option (List X)) → option_map (map (λ (y : Inner). y.decl)) (option_map (map (inner scope)) (option_map (map of) o)) ≡ option_map (map of) o
perhaps_kept scope of kept None = refl
perhaps_kept scope of kept (Some xs) = ap Some (all_kept scope of kept xs)

-- a layer with other parameters
abbrev with_fun : {X Y : Type 0} → Decl-F X → Option (List Y) → Decl-F Y
with_fun x fun = record { place = x.place; name = x.name; base = x.base; stars = x.stars; size = x.size; fun = fun; ann = x.ann }

map_is : {X Y : Type 0} (f : X → Y) (x : Decl-F X) → map-Decl X Y f x ≡ with_fun x (option_map (map f) x.fun)
map_is f x = ap (with_fun x) (mapped f x x.fun refl)

layer_kept : {X : Type 0} (scope : Scope) (of : X → Decl) → ((x : X) → Kept scope (of x)) → (l : Decl-F X) → map-Decl Inner Decl (λ y. y.decl) (map-Decl Decl Inner (inner scope) (map-Decl X Decl of l)) ≡ map-Decl X Decl of l
layer_kept {X} scope of kept l =
    ap (λ k. map-Decl Inner Decl (λ y. y.decl) (map-Decl Decl Inner (inner scope) k)) (map_is of l)
    ∙ ap (map-Decl Inner Decl (λ y. y.decl)) (map_is (inner scope) (with_fun l (option_map (map of) l.fun)))
    ∙ map_is (λ (y : Inner). y.decl) (with_fun l (option_map (map (inner scope)) (option_map (map of) l.fun)))
    ∙ ap (with_fun l) (perhaps_kept scope of kept l.fun)
    ∙ sym (map_is of l)

abbrev Layer : Scope → Decl-F Decl → Type 0
Layer scope l = map-Decl Inner Decl (λ y. y.decl) (map-Decl Decl Inner (inner scope) l) ≡ l

kept_decls : (scope : Scope) (d : Decl) → Kept scope d
kept_decls scope = ind-Decl (Kept scope) (λ x y is. record {
  by = ap (λ (z : Inner). z.decl) (fold-roll-Decl Inner (inner_layer scope) x) ∙ ap roll-Decl (subst (Layer scope) is (layer_kept scope (λ e. e.0) (λ e. e.1) y));
})

pub decl_is : (scope : Scope) (d : Decl) → (inner scope d).decl ≡ d
decl_is scope d = (kept_decls scope d).by

-- ---- what is within

pub within_is : (scope : Scope) (around : List Candidate) (d : Decl) → inner_by scope (option_map (map (inner scope)) (out-Decl d).fun) around ≡ within scope around d
unfolding within
within_is scope around d = ap (λ o. inner_by scope o around) (sym (mapped (inner scope) (out-Decl d) (out-Decl d).fun refl)) ∙ sym (ap (λ (x : Inner). x.annotations around) (fold_out-Decl Inner (inner_layer scope) d))

pub siblings_are : (scope : Scope) (around : List Candidate) (ds : List Decl) → map (candidate scope) ds ++ around ≡ inner_siblings scope around (map (inner scope) ds)
siblings_are scope around ds = ap (λ cs. cs ++ around) (each ds) where
  each : (xs : List Decl) → map (candidate scope) xs ≡ map (λ (y : Inner). candidate scope y.decl) (map (inner scope) xs)
  each [] = refl
  each (x ∷ xs) = λ i. candidate scope (sym (decl_is scope x) i) ∷ each xs i

pub among_is : (scope : Scope) (around siblings : List Candidate) (before : List Decl) (d : Decl) → beside (within scope (names_around around before) d) (own_annotation scope siblings before d) ≡ inner_among scope around siblings before (inner scope d)
unfolding within
among_is scope around siblings before d = ap (λ x. beside ((inner scope d).annotations (names_around around before)) (own_annotation scope siblings before x)) (sym (decl_is scope d))

-- a loop over parameters, at one of them
pub one_inner : (scope : Scope) (around siblings : List Candidate) (xs : List Decl) (i : ℕ) (x : Decl) (a a1 w : Result (List Ann) Fault) → i < length xs → x ≡ get_or xs i x → a1 ≡ extended a (told (inner_among scope around siblings (take i xs) (inner scope x))) → followed a (told (inner_list scope around siblings (take i xs) (map (inner scope) (drop i xs)))) ≡ w → followed a1 (told (inner_list scope around siblings (take (i + 1) xs) (map (inner scope) (drop (i + 1) xs)))) ≡ w
unfolding inner_list
one_inner scope around siblings xs i x a a1 w inside is grown so_far =
    one_behind (λ before ys. inner_list scope around siblings before (map (inner scope) ys)) (λ before y. inner_among scope around siblings before (inner scope y))
    (λ before y rest. ap (λ z. next (inner_among scope around siblings before (inner scope y)) (inner_list scope around siblings (before ++ z ∷ []) (map (inner scope) rest))) (decl_is scope y))
    xs i x a a1 w inside is grown so_far
