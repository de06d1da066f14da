-- The rules of declarators look at no place.
use Rattle.mdr_core.specs.Layout.{cells}
use Rattle.mdr_core.specs.declared.place.Place.{Place}
use Rattle.mdr_core.specs.declared.types.Ty.TheOpen.{Ty-F}
use Rattle.mdr_faults.specs.Declarations.{Declarator, cells_by, cells_of, count_of, declarator, element_count, is_same_name, object_declared, object_of, parameter_among, parameter_list, sized, struct_cells}
use Rattle.mdr_faults.specs.Faults.{Checked}
use Rattle.mdr_faults.specs.declared.fault.FaultKind.TheVariants.{Limit}
use Rattle.mdr_faults.specs.declared.scope.Scope.{Scope}
use Rattle.mdr_faults.specs.declared.scope.StructEntry.{StructEntry}
use Rattle.mdr_placeless.proofs.Combined.{after_alike, both_alike, chosen_alike, demand_by, next_alike}
use Rattle.mdr_placeless.proofs.Constants.{AreBases, AreConsts, AreTexts, bases, constants, consts, parameter_types, perhaps_map, result_types, texts, types_named}
use Rattle.mdr_placeless.proofs.Scopes.{AreEntries, AreScopes, Pairs, Perhaps, again_alike, one_more, pairs_get, pairs_length, pairs_over, perhaps_some}
use Rattle.mdr_placeless.proofs.Scopes.Pairs.{Cons, Nil}
use Rattle.mdr_placeless.proofs.Scopes.Perhaps.{Nones, Somes}
use Rattle.mdr_placeless.specs.Alike.{AreAlike}
use Rattle.mdr_placeless.specs.Alike.AreAlike.{Rights, Wrongs}
use Rattle.mdr_postfix.specs.Subscripts.{is_array}
use Rattle.mdr_roundtrip.specs.Declarations.{unplaced_annotation, unplaced_decl}
use Rattle.mdr_roundtrip.specs.Initialised.{unplaced_const}
use Rattle.mdr_roundtrip.specs.Unplaced.{nowhere}
use Rattle.mdr_syntax.specs.declared.tree.AnnText.{AnnText}
use Rattle.mdr_syntax.specs.declared.tree.Base.{Base}
use Rattle.mdr_syntax.specs.declared.tree.Const.{Const}
use Rattle.mdr_syntax.specs.declared.tree.Decl.TheOpen.{Decl-F}
use Rattle.std.proofs.Common.{Bool, List, None, Option, Some, [], ap, is_some, map, nat_lt, not, option_map, refl, subst, suc, sym, zero, ℕ, ℤ, ◌++◌, ◌==◌, ◌||◌, ◌∙◌, ◌∷◌, ◌≡◌}
use Rattle.mdr_core.specs.declared.types.Ty.{Ty, out-Ty}
use Rattle.mdr_faults.specs.Declarations.{parameter_type, declarator_by, declarator_layer}
use Rattle.mdr_roundtrip.proofs.Unplacing.{decl_made}
use Rattle.mdr_syntax.specs.declared.tree.Decl.TheFolds.{ind-Decl, map-Decl, fold-roll-Decl}
use Rattle.mdr_syntax.specs.declared.tree.Decl.{Decl, out-Decl, roll-Decl, out-roll-Decl}
use Rattle.std.specs.Prelude.{pos, negsuc, ◌*◌}

-- ---- declarators as they are typed

pub record AreDeclarators (x y : Declarator) : Type 0 where
  pub all : AreAlike x.whole y.whole
  pub param : AreAlike x.parameter y.parameter

pub same_names : (m n o p : Option (List ℕ)) → m ≡ n → o ≡ p → is_same_name m o ≡ is_same_name n p
same_names m n o p e f = ap (λ (x : Option (List ℕ)). is_same_name x o) e ∙ ap (λ (x : Option (List ℕ)). is_same_name n x) f

pub parameters_among : {xs ys : List Declarator} {x y : Declarator} → Pairs AreDeclarators xs ys → AreDeclarators x y → AreAlike (parameter_among xs x) (parameter_among ys y)
parameters_among {x = x} {y = y} h r = demand_by x.place y.place Limit _ _ (ap (λ n. not (n == 8)) (pairs_length h)) r.param

pub parameter_lists : {zs ws : List Declarator} → Pairs AreDeclarators zs ws → (xs ys : List Declarator) → Pairs AreDeclarators xs ys → AreAlike (parameter_list xs zs) (parameter_list ys ws)
unfolding parameter_list
parameter_lists Nil xs ys h = Rights _
parameter_lists (Cons {x = x} {y = y} r rs) xs ys h = next_alike (parameters_among h r) (parameter_lists rs (xs ++ x ∷ []) (ys ++ y ∷ []) (one_more h r))

declarators_by : {c d : Checked Ty} (p q : Place) {o o' : Option (List Declarator)} → AreAlike c d → Perhaps (Pairs AreDeclarators) o o' → AreAlike (declarator_by c p o) (declarator_by d q o')
declarators_by p q h Nones = h
declarators_by p q h (Somes r) = both_alike (after_alike h (result_types p q)) (parameter_lists r [] [] Nil) (λ t ts. Rights _)

layers : {s t : Scope} → AreScopes s t → (p q : Place) (name : Option (List ℕ)) {b c : Base} (n : ℕ) {size size' : Option Const} {fun fun' : Option (List Declarator)} (ann ann' : Option AnnText)
    → AreBases b c → Perhaps AreConsts size size' → Perhaps (Pairs AreDeclarators) fun fun'
    → AreDeclarators (declarator_layer s (record { place = p; name = name; base = b; stars = n; size = size; fun = fun; ann = ann })) (declarator_layer t (record { place = q; name = name; base = c; stars = n; size = size'; fun = fun'; ann = ann' }))
layers {s = s} {t = t} a p q name {b = b} {c = c} n {size = size} {size' = size'} {fun = fun} {fun' = fun'} ann ann' bs ss fs = record {
  all = declarators_by p q (types_named a bs n) fs;
  param = after_alike (declarators_by p q (types_named a bs n) fs) (λ u. subst (λ b. AreAlike (parameter_type p (is_some size) u) (parameter_type q b u)) (perhaps_some ss) (parameter_types p q (is_some size) u));
}

-- ---- declarations as they are written

pub record AreDecls (d e : Decl) : Type 0 where
  pub named : (out-Decl d).name ≡ (out-Decl e).name
  pub size : Perhaps AreConsts (out-Decl d).size (out-Decl e).size
  pub ann : Perhaps AreTexts (out-Decl d).ann (out-Decl e).ann
  pub typed : (s t : Scope) → AreScopes s t → AreDeclarators (declarator s d) (declarator t e)

abbrev pub declaration_of : Place → Option (List ℕ) → Base → ℕ → Option Const → Option (List Decl) → Option AnnText → Decl-F Decl
declaration_of place name b k size fun a = record { place = place; name = name; base = b; stars = k; size = size; fun = fun; ann = a }

pub typed_both : {ds es : List Decl} → Pairs AreDecls ds es → (s t : Scope) → AreScopes s t → Pairs AreDeclarators (map (declarator s) ds) (map (declarator t) es)
typed_both h s t a = pairs_over (declarator s) (declarator t) (λ d e r. r.typed s t a) h

made_typed : {s t : Scope} → AreScopes s t → (p q : Place) (name : Option (List ℕ)) {b c : Base} (n : ℕ) {size size' : Option Const} {fun fun' : Option (List Decl)} (ann ann' : Option AnnText)
    → AreBases b c → Perhaps AreConsts size size' → Perhaps (Pairs AreDecls) fun fun'
    → AreDeclarators (declarator s (roll-Decl (declaration_of p name b n size fun ann))) (declarator t (roll-Decl (declaration_of q name c n size' fun' ann')))
made_typed {s = s} {t = t} a p q name {b = b} {c = c} n {size = size} {size' = size'} ann ann' bs ss Nones =
    subst (λ x. AreDeclarators x (declarator t (roll-Decl (declaration_of q name c n size' None ann')))) (sym (fold-roll-Decl Declarator (declarator_layer s) (declaration_of p name b n size None ann)))
    (subst (λ y. AreDeclarators (declarator_layer s (record { place = p; name = name; base = b; stars = n; size = size; fun = None; ann = ann })) y) (sym (fold-roll-Decl Declarator (declarator_layer t) (declaration_of q name c n size' None ann')))
    (layers a p q name n ann ann' bs ss Nones))
made_typed {s = s} {t = t} a p q name {b = b} {c = c} n {size = size} {size' = size'} ann ann' bs ss (Somes {x = ds} {y = es} r) =
    subst (λ x. AreDeclarators x (declarator t (roll-Decl (declaration_of q name c n size' (Some es) ann')))) (sym (fold-roll-Decl Declarator (declarator_layer s) (declaration_of p name b n size (Some ds) ann)))
    (subst (λ y. AreDeclarators (declarator_layer s (record { place = p; name = name; base = b; stars = n; size = size; fun = Some (map (declarator s) ds); ann = ann })) y) (sym (fold-roll-Decl Declarator (declarator_layer t) (declaration_of q name c n size' (Some es) ann')))
    (layers a p q name n ann ann' bs ss (Somes (typed_both r s t a))))

outs_by : {A : Type 0} (R : A → A → Type 0) (f : Decl-F Decl → A) (k l : Decl-F Decl) → R (f k) (f l) → R (f (out-Decl (roll-Decl k))) (f (out-Decl (roll-Decl l)))
outs_by R f k l h = subst (λ x. R (f x) (f (out-Decl (roll-Decl l)))) (sym (out-roll-Decl k)) (subst (λ y. R (f k) (f y)) (sym (out-roll-Decl l)) h)

made_alike : (p q : Place) (name : Option (List ℕ)) {b c : Base} (n : ℕ) {size size' : Option Const} {fun fun' : Option (List Decl)} {ann ann' : Option AnnText}
    → AreBases b c → Perhaps AreConsts size size' → Perhaps (Pairs AreDecls) fun fun' → Perhaps AreTexts ann ann'
    → AreDecls (roll-Decl (declaration_of p name b n size fun ann)) (roll-Decl (declaration_of q name c n size' fun' ann'))
made_alike p q name {b = b} {c = c} n {size = size} {size' = size'} {fun = fun} {fun' = fun'} {ann = ann} {ann' = ann'} bs ss fs us = record {
  named = outs_by (λ x y. x ≡ y) (λ (k : Decl-F Decl). k.name) (declaration_of p name b n size fun ann) (declaration_of q name c n size' fun' ann') refl;
  size = outs_by (Perhaps AreConsts) (λ (k : Decl-F Decl). k.size) (declaration_of p name b n size fun ann) (declaration_of q name c n size' fun' ann') ss;
  ann = outs_by (Perhaps AreTexts) (λ (k : Decl-F Decl). k.ann) (declaration_of p name b n size fun ann) (declaration_of q name c n size' fun' ann') us;
  typed = λ s t a. made_typed a p q name n ann ann' bs ss fs;
}

-- ---- each declaration and itself without places

record Good (d : Decl) : Type 0 where
  by : AreDecls d (unplaced_decl d)

all_good : {X : Type 0} (of : X → Decl) → ((x : X) → Good (of x)) → (xs : List X) → Pairs AreDecls (map of xs) (map unplaced_decl (map of xs))
all_good of good [] = Nil
all_good of good (x ∷ xs) = Cons (good x).by (all_good of good xs)

perhaps_good : {X : Type 0} (of : X → Decl) → ((x : X) → Good (of x)) → (o : Option (List X)) → Perhaps (Pairs AreDecls) (option_map (map of) o) (option_map (map unplaced_decl) (option_map (map of) o))
perhaps_good of good None = Nones
perhaps_good of good (Some xs) = Somes (all_good of good xs)

good_made : (p : Place) (name : Option (List ℕ)) (b : Base) (n : ℕ) (size : Option Const) (fun : Option (List Decl)) (ann : Option AnnText)
    → Perhaps (Pairs AreDecls) fun (option_map (map unplaced_decl) fun) → Good (roll-Decl (declaration_of p name b n size fun ann))
good_made p name b n size fun ann h = record {
  by = subst (λ e. AreDecls (roll-Decl (declaration_of p name b n size fun ann)) e) (sym (decl_made p name b n size fun ann))
      (made_alike p nowhere name n (bases b) (perhaps_map unplaced_const consts size) h (perhaps_map unplaced_annotation texts ann));
}

pub mapped : {X : Type 0} (of : X → Decl) (l : Decl-F X) (o : Option (List X)) → l.fun ≡ o → map-Decl X Decl of l ≡ declaration_of l.place l.name l.base l.stars l.size (option_map (map of) o) l.ann
mapped {X = X} of l None e = rw e refl
mapped {X = X} of l (Some ds) e = rw e refl

good_layer : {X : Type 0} (of : X → Decl) → ((x : X) → Good (of x)) → (l : Decl-F X) → Good (roll-Decl (map-Decl X Decl of l))
good_layer of good l = subst (λ k. Good (roll-Decl k)) (sym (mapped of l l.fun refl)) (good_made l.place l.name l.base l.stars l.size (option_map (map of) l.fun) l.ann (perhaps_good of good l.fun))

good_decls : (d : Decl) → Good d
good_decls = ind-Decl Good (λ x y is. subst (λ k. Good (roll-Decl k)) is (good_layer (λ e. e.0) (λ e. e.1) y))

pub decls : (d : Decl) → AreDecls d (unplaced_decl d)
decls d = (good_decls d).by

-- ---- objects

counts_of : (p q : Place) (n : ℤ) → AreAlike (element_count p n) (element_count q n)
counts_of p q (pos zero) = Wrongs _ _
counts_of p q (pos (suc n)) = Rights _
counts_of p q (negsuc n) = Wrongs _ _

counts : {s t : Scope} → AreScopes s t → (p q : Place) {c d : Option Const} → Perhaps AreConsts c d → AreAlike (count_of s p c) (count_of t q d)
counts a p q Nones = Rights _
counts a p q (Somes r) = after_alike (constants a p q r) (λ c. counts_of p q _)

struct_cell : (p q : Place) {d e : Option StructEntry} → Perhaps AreEntries d e → AreAlike (struct_cells p d) (struct_cells q e)
struct_cell p q Nones = Wrongs _ _
struct_cell p q (Somes r) = again_alike r.cell

cells_layer : {s t : Scope} → AreScopes s t → (p q : Place) (l : Ty-F Ty) → AreAlike (cells_by s p l) (cells_by t q l)
cells_layer a p q (Ty-F.Int k) = Rights _
cells_layer a p q Ty-F.Lock = Rights _
cells_layer a p q (Ty-F.Struct n) = struct_cell p q (pairs_get n a.struct)
cells_layer a p q (Ty-F.Ptr u) = Rights _
cells_layer a p q Ty-F.VoidPtr = Rights _
cells_layer a p q (Ty-F.Fun us) = Rights _
cells_layer a p q Ty-F.Void = Wrongs _ _

pub cells_alike : {s t : Scope} → AreScopes s t → (p q : Place) (u : Ty) → AreAlike (cells_of s p u) (cells_of t q u)
cells_alike a p q u = cells_layer a p q (out-Ty u)

sizes : (p q : Place) (u : Ty) (is_array : Bool) (n cells : ℕ) → AreAlike (sized p u is_array n cells) (sized q u is_array n cells)
sizes p q u is_array n cells = chosen_alike (nat_lt 65536 n || nat_lt 65536 (n * cells)) (Wrongs _ _) (Rights _)

objects_of : {s t : Scope} → AreScopes s t → (p q l m : Place) (u : Ty) (is_array : Bool) (n : ℕ) → AreAlike (object_of s p l u is_array n) (object_of t q m u is_array n)
objects_of a p q l m u is_array n = after_alike (cells_alike a p q u) (sizes l m u is_array n)

pub objects : {s t : Scope} → AreScopes s t → (l m : Place) {d e : Decl} → AreDecls d e → AreAlike (object_declared s l d) (object_declared t m e)
unfolding object_declared
objects {s = s} {t = t} a l m {d = d} {e = e} r =
    both_alike ((r.typed s t a).all) (counts a (out-Decl d).place (out-Decl e).place r.size)
    (λ u n. subst (λ b. AreAlike (object_of s (out-Decl d).place l u (is_some (out-Decl d).size) n) (object_of t (out-Decl e).place m u b n)) (perhaps_some r.size)
    (objects_of a (out-Decl d).place (out-Decl e).place l m u (is_some (out-Decl d).size) n))
