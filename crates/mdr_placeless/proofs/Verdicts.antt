-- Whether names are short doesn't depend on places.
use Rattle.mdr_assign.specs.Assignments.{one}
use Rattle.mdr_check.specs.Names.{short_enumerator, short_enumerators, short_head, short_item, short_items, short_what}
use Rattle.mdr_headings.specs.Names.{Spelled, all_fine, all_good_names, as_well, good_list, good_names, good_params, inner_names, perhaps_short, short_name, spelled, spelled_among, spelled_layer, spelled_list}
use Rattle.mdr_core.specs.declared.place.Place.{Place}
use Rattle.mdr_faults.specs.declared.fault.FaultKind.TheVariants.{Limit, Redefined}
use Rattle.mdr_faults.specs.Declarations.{is_same_name}
use Rattle.mdr_placeless.proofs.Combined.{both_alike, demand_by}
use Rattle.mdr_placeless.proofs.Declared.{declaration_of, mapped, same_names}
use Rattle.mdr_placeless.proofs.Scopes.{Pairs, Perhaps, one_more, pairs_any}
use Rattle.mdr_placeless.proofs.Scopes.Pairs.{Cons, Nil}
use Rattle.mdr_placeless.proofs.Scopes.Perhaps.{Nones, Somes}
use Rattle.mdr_placeless.specs.Alike.{AreAlike}
use Rattle.mdr_placeless.specs.Alike.AreAlike.{Rights}
use Rattle.mdr_roundtrip.specs.Declarations.{unplaced_annotation, unplaced_decl}
use Rattle.mdr_roundtrip.specs.Initialised.{unplaced_const}
use Rattle.mdr_roundtrip.specs.Itemised.{unplaced_enumerator, unplaced_head, unplaced_item, unplaced_what_item}
use Rattle.mdr_roundtrip.specs.Unplaced.{nowhere, unplaced_base}
use Rattle.mdr_syntax.specs.declared.tree.AnnText.{AnnText}
use Rattle.mdr_syntax.specs.declared.tree.Base.{Base}
use Rattle.mdr_syntax.specs.declared.tree.Const.{Const}
use Rattle.mdr_syntax.specs.declared.tree.Decl.TheOpen.{Decl-F}
use Rattle.mdr_syntax.specs.declared.tree.Enumerator.{Enumerator}
use Rattle.mdr_syntax.specs.declared.tree.Head.{Head}
use Rattle.mdr_syntax.specs.declared.tree.Item.{Item}
use Rattle.mdr_syntax.specs.declared.tree.ItemWhat.{ItemWhat}
use Rattle.std.proofs.Common.{List, None, Option, Some, [], ap, length, map, nat_lt, not, option_map, refl, subst, sym, ℕ, ◌++◌, ◌∙◌, ◌∷◌, ◌≡◌}
use Rattle.mdr_headings.specs.Names.{Verdict}
use Rattle.mdr_roundtrip.proofs.Unplacing.{decl_made}
use Rattle.mdr_syntax.specs.declared.tree.Decl.TheFolds.{ind-Decl, map-Decl, fold-roll-Decl}
use Rattle.mdr_syntax.specs.declared.tree.Decl.{Decl, out-Decl, out-roll-Decl, roll-Decl}
use Rattle.mdr_syntax.specs.declared.tree.ItemWhat.TheVariants as item

verdicts : {b c d e : Verdict} → AreAlike b c → AreAlike d e → AreAlike (as_well b d) (as_well c e)
verdicts h k = both_alike h k (λ x y. Rights _)

shorts : (p q : Place) (m n : List ℕ) → m ≡ n → AreAlike (short_name p m) (short_name q n)
unfolding short_name
shorts p q m n e = demand_by p q Limit _ _ (ap (λ (x : List ℕ). not (nat_lt 63 (length x))) e) (Rights _)

perhaps_shorts : (p q : Place) (m : Option (List ℕ)) → AreAlike (perhaps_short p m) (perhaps_short q m)
perhaps_shorts p q None = Rights _
perhaps_shorts p q (Some m) = shorts p q m m refl

all_both : {cs ds : List Verdict} → Pairs AreAlike cs ds → AreAlike (all_fine cs) (all_fine ds)
all_both Nil = Rights _
all_both (Cons r rs) = verdicts r (all_both rs)

-- ---- declarators

record AreSpelled (x y : Spelled) : Type 0 where
  named : x.name ≡ y.name
  names_both : AreAlike x.names y.names

spelled_alike : {xs ys : List Spelled} {x y : Spelled} → Pairs AreSpelled xs ys → AreSpelled x y → AreAlike (spelled_among xs x) (spelled_among ys y)
spelled_alike {x = x} {y = y} h r =
    demand_by x.place y.place Redefined _ _ (ap (λ b. not b) (pairs_any (λ b. is_same_name b.name x.name) (λ b. is_same_name b.name y.name) (λ a b s. same_names a.name b.name x.name y.name s.named r.named) h)) r.names_both

spelled_lists : {zs ws : List Spelled} → Pairs AreSpelled zs ws → (xs ys : List Spelled) → Pairs AreSpelled xs ys → AreAlike (spelled_list xs zs) (spelled_list ys ws)
unfolding spelled_list
spelled_lists Nil xs ys h = Rights _
spelled_lists (Cons {x = x} {y = y} r rs) xs ys h = verdicts (spelled_alike h r) (spelled_lists rs (xs ++ x ∷ []) (ys ++ y ∷ []) (one_more h r))

inners_both : {o p : Option (List Spelled)} → Perhaps (Pairs AreSpelled) o p → AreAlike (inner_names o) (inner_names p)
inners_both Nones = Rights _
inners_both (Somes r) = spelled_lists r [] [] Nil

-- a layer with other parameters
abbrev spelled_of : Decl-F Decl → Option (List Spelled) → Spelled
spelled_of k fun = record { place = k.place; name = k.name; names = as_well (perhaps_short k.place k.name) (inner_names fun) }

record Good (d : Decl) : Type 0 where
  by : AreSpelled (spelled d) (spelled (unplaced_decl d))
  within : AreAlike (good_params d) (good_params (unplaced_decl d))

all_good : {X : Type 0} (of : X → Decl) → ((x : X) → Good (of x)) → (xs : List X) → Pairs AreSpelled (map spelled (map of xs)) (map spelled (map unplaced_decl (map of xs)))
all_good of good [] = Nil
all_good of good (x ∷ xs) = Cons (good x).by (all_good of good xs)

moved : (d e : Decl) (k l : Decl-F Decl) (o p : Option (List Spelled)) → d ≡ roll-Decl k → e ≡ roll-Decl l → (map-Decl Decl Spelled spelled k).fun ≡ o → (map-Decl Decl Spelled spelled l).fun ≡ p
    → k.name ≡ l.name → AreAlike (perhaps_short k.place k.name) (perhaps_short l.place l.name) → Perhaps (Pairs AreSpelled) o p → AreSpelled (spelled d) (spelled e)
moved d e k l o p is also one other n h r =
    subst (λ c. AreSpelled c (spelled e)) (sym (ap (λ (x : Decl). spelled x) is ∙ fold-roll-Decl Spelled spelled_layer k ∙ ap (λ (x : Option (List Spelled)). spelled_of k x) one))
    (subst (λ c. AreSpelled (spelled_of k o) c) (sym (ap (λ (x : Decl). spelled x) also ∙ fold-roll-Decl Spelled spelled_layer l ∙ ap (λ (x : Option (List Spelled)). spelled_of l x) other))
    (record { named = n; names_both = verdicts h (inners_both r) }))

params_at : (d : Decl) (k : Decl-F Decl) → d ≡ roll-Decl k → good_params d ≡ inner_names (option_map (map spelled) k.fun)
params_at d k is = ap (λ (x : Decl-F Decl). inner_names (option_map (map spelled) x.fun)) (ap out-Decl is ∙ out-roll-Decl k)

params_moved : (d e : Decl) (k l : Decl-F Decl) (o p : Option (List Spelled)) → d ≡ roll-Decl k → e ≡ roll-Decl l → option_map (map spelled) k.fun ≡ o → option_map (map spelled) l.fun ≡ p → Perhaps (Pairs AreSpelled) o p
    → AreAlike (good_params d) (good_params e)
params_moved d e k l o p is also one other r =
    subst (λ c. AreAlike c (good_params e)) (sym (params_at d k is ∙ ap inner_names one))
    (subst (λ c. AreAlike (inner_names o) c) (sym (params_at e l also ∙ ap inner_names other)) (inners_both r))

good_by : {X : Type 0} (of : X → Decl) → ((x : X) → Good (of x)) → (p : Place) (name : Option (List ℕ)) (b : Base) (n : ℕ) (size : Option Const) (fun : Option (List X)) (ann : Option AnnText)
    → Good (roll-Decl (declaration_of p name b n size (option_map (map of) fun) ann))
good_by of good p name b n size None ann = record {
  by = moved _ _ (declaration_of p name b n size None ann) (declaration_of nowhere name (unplaced_base b) n (option_map unplaced_const size) None (option_map unplaced_annotation ann)) None None refl (decl_made p name b n size None ann) refl refl refl (perhaps_shorts p nowhere name) Nones;
  within = params_moved _ _ (declaration_of p name b n size None ann) (declaration_of nowhere name (unplaced_base b) n (option_map unplaced_const size) None (option_map unplaced_annotation ann)) None None refl (decl_made p name b n size None ann) refl refl Nones;
}
good_by of good p name b n size (Some xs) ann = record {
  by = moved _ _ (declaration_of p name b n size (Some (map of xs)) ann) (declaration_of nowhere name (unplaced_base b) n (option_map unplaced_const size) (Some (map unplaced_decl (map of xs))) (option_map unplaced_annotation ann))
      (Some (map spelled (map of xs))) (Some (map spelled (map unplaced_decl (map of xs)))) refl (decl_made p name b n size (Some (map of xs)) ann) refl refl refl (perhaps_shorts p nowhere name) (Somes (all_good of good xs));
  within = params_moved _ _ (declaration_of p name b n size (Some (map of xs)) ann) (declaration_of nowhere name (unplaced_base b) n (option_map unplaced_const size) (Some (map unplaced_decl (map of xs))) (option_map unplaced_annotation ann))
      (Some (map spelled (map of xs))) (Some (map spelled (map unplaced_decl (map of xs)))) refl (decl_made p name b n size (Some (map of xs)) ann) refl refl (Somes (all_good of good xs));
}

good_layer : {X : Type 0} (of : X → Decl) → ((x : X) → Good (of x)) → (l : Decl-F X) → Good (roll-Decl (map-Decl X Decl of l))
good_layer of good l = subst (λ k. Good (roll-Decl k)) (sym (mapped of l l.fun refl)) (good_by of good l.place l.name l.base l.stars l.size l.fun l.ann)

good_decls : (d : Decl) → Good d
good_decls = ind-Decl Good (λ x y is. subst (λ k. Good (roll-Decl k)) is (good_layer (λ e. e.0) (λ e. e.1) y))

pub good_params_both : (d : Decl) → AreAlike (good_params d) (good_params (unplaced_decl d))
good_params_both d = (good_decls d).within

names_both : (ds : List Decl) → AreAlike (all_good_names ds) (all_good_names (map unplaced_decl ds))
names_both ds = all_both (each_good ds)
  where
    each_good : (xs : List Decl) → Pairs AreAlike (map good_names xs) (map good_names (map unplaced_decl xs))
    each_good [] = Nil
    each_good (x ∷ xs) = Cons ((good_decls x).by).names_both (each_good xs)

lists_both : (ds : List Decl) → AreAlike (good_list ds) (good_list (map unplaced_decl ds))
lists_both ds = spelled_lists (each_spelled ds) [] [] Nil
  where
    each_spelled : (xs : List Decl) → Pairs AreSpelled (map spelled xs) (map spelled (map unplaced_decl xs))
    each_spelled [] = Nil
    each_spelled (x ∷ xs) = Cons (good_decls x).by (each_spelled xs)

-- ---- items

short_enumerators_both : (es : List Enumerator) → AreAlike (short_enumerators es) (short_enumerators (map unplaced_enumerator es))
short_enumerators_both es = all_both (each_short es)
  where
    each_short : (xs : List Enumerator) → Pairs AreAlike (map short_enumerator xs) (map short_enumerator (map unplaced_enumerator xs))
    each_short [] = Nil
    each_short (x ∷ xs) = Cons (shorts x.place nowhere x.name x.name refl) (each_short xs)

short_heads : (h : Head) → AreAlike (short_head h) (short_head (unplaced_head h))
short_heads h = verdicts (shorts h.place nowhere h.name h.name refl) (lists_both h.params)

short_whats : (p q : Place) (w : ItemWhat) → AreAlike (short_what p w) (short_what q (unplaced_what_item w))
short_whats p q (item.Define name is_negative n k) = shorts p q name name refl
short_whats p q (item.Struct at name ds) = verdicts (shorts at nowhere name name refl) (names_both ds)
short_whats p q (item.Enum es) = short_enumerators_both es
short_whats p q (item.Global d init) = ((good_decls d).by).names_both
short_whats p q (item.Proto h is_remote) = short_heads h
short_whats p q (item.Func h is_critical ns) = short_heads h

pub short_both : (is : List Item) → AreAlike (short_items is) (short_items (map unplaced_item is))
unfolding short_items
short_both is = all_both (each_short is)
  where
    each_short : (xs : List Item) → Pairs AreAlike (map short_item xs) (map short_item (map unplaced_item xs))
    each_short [] = Nil
    each_short (x ∷ xs) = Cons (short_whats x.place nowhere x.what) (each_short xs)
