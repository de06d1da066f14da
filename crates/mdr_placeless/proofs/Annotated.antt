-- The rules of annotations look at no place.
use Rattle.mdr_assign.specs.Assignments.{one}
use Rattle.mdr_core.specs.declared.place.Place.{Place}
use Rattle.mdr_core.specs.declared.types.Ty.TheOpen.{Ty-F}
use Rattle.mdr_faults.specs.Declarations.{declarator, number_constant}
use Rattle.mdr_faults.specs.Faults.{Checked, told}
use Rattle.mdr_faults.specs.declared.fault.Fault.{Fault}
use Rattle.mdr_faults.specs.declared.scope.Candidate.{Candidate}
use Rattle.mdr_faults.specs.declared.scope.Entity.{Entity}
use Rattle.mdr_faults.specs.declared.scope.Named.{Named}
use Rattle.mdr_faults.specs.declared.scope.Scope.{Scope}
use Rattle.mdr_headings.specs.Annotations.{annotated, array_length, array_on, as_length, bare, candidate, candidate_by, entity_constant, entity_global, field_named, field_suits, has_sibling, length_named, no_length, or_constant, or_global, or_sibling, sentinel_among, sentinel_at, sentinel_of, sentinel_on, sibling_named, suits_if, target_by}
use Rattle.mdr_headings.specs.Names.{good_params}
use Rattle.mdr_headings.specs.Within.{Inner, inner, inner_among, inner_by, inner_layer, inner_list, inner_siblings, names_around, own_annotation, within}
use Rattle.mdr_placeless.proofs.Combined.{after_alike, both_alike, chosen_alike, next_alike}
use Rattle.mdr_placeless.proofs.Constants.{AreConsts, AreTexts}
use Rattle.mdr_placeless.proofs.Constants.AreTexts.{Arrays, Opaques, Sentinels, Terms}
use Rattle.mdr_placeless.proofs.Declared.{AreDecls, declaration_of, decls, mapped, parameters_among, typed_both}
use Rattle.mdr_placeless.proofs.Scopes.{AreNamed, AreScopes, AreTold, Pairs, Perhaps, entity_alike, one_more, pairs_map, perhaps_some, told_alike}
use Rattle.mdr_placeless.proofs.Scopes.AreTold.{Errs, Oks}
use Rattle.mdr_placeless.proofs.Scopes.Pairs.{Cons, Nil}
use Rattle.mdr_placeless.proofs.Scopes.Perhaps.{Nones, Somes}
use Rattle.mdr_placeless.specs.Alike.{AreAlike}
use Rattle.mdr_placeless.specs.Alike.AreAlike.{Rights, Wrongs}
use Rattle.mdr_postfix.specs.Subscripts.{is_array}
use Rattle.mdr_roundtrip.specs.Declarations.{unplaced_annotation, unplaced_decl}
use Rattle.mdr_roundtrip.specs.Initialised.{unplaced_const}
use Rattle.mdr_roundtrip.specs.Unplaced.{nowhere, unplaced_base}
use Rattle.mdr_syntax.specs.declared.tree.AnnText.{AnnText}
use Rattle.mdr_syntax.specs.declared.tree.Base.{Base}
use Rattle.mdr_syntax.specs.declared.tree.Const.{Const}
use Rattle.mdr_syntax.specs.declared.tree.Decl.TheOpen.{Decl-F}
use Rattle.std.proofs.Common.{Bool, List, None, Option, Result, Some, [], ap, false, is_some, map, option_map, refl, slice_get, subst, sym, true, ℕ, ◌++◌, ◌||◌, ◌∙◌, ◌∷◌, ◌≡◌}
use Rattle.mdr_core.specs.declared.types.Ann.{Ann}
use Rattle.mdr_core.specs.declared.types.Ty.{Ty, out-Ty}
use Rattle.mdr_faults.specs.declared.scope.Entity.TheVariants as entity
use Rattle.mdr_headings.proofs.Inners.{decl_is}
use Rattle.mdr_placeless.proofs.Constants.AreConsts.{Numbers, Worded}
use Rattle.mdr_placeless.proofs.Verdicts.{good_params_both}
use Rattle.mdr_roundtrip.proofs.Unplacing.{decl_made}
use Rattle.mdr_syntax.specs.declared.tree.Decl.TheFolds.{ind-Decl, map-Decl, fold-roll-Decl}
use Rattle.mdr_syntax.specs.declared.tree.Decl.{Decl, out-Decl, roll-Decl}

-- ---- what annotations name

told_candidates : (name : Option (List ℕ)) (is_array : Bool) {r s : Result Ty Fault} → AreTold r s → candidate_by name is_array r ≡ candidate_by name is_array s
told_candidates name is_array (Oks u) = refl
told_candidates name is_array (Errs f g) = refl

pub candidates : {s t : Scope} → AreScopes s t → {d e : Decl} → AreDecls d e → candidate s d ≡ candidate t e
unfolding candidate
candidates {s = s} {t = t} a {d = d} {e = e} r =
    ap (λ (n : Option (List ℕ)). candidate_by n (is_some (out-Decl d).size) (told (declarator s d).whole)) r.named
    ∙ ap (λ b. candidate_by (out-Decl e).name b (told (declarator s d).whole)) (perhaps_some r.size)
    ∙ told_candidates (out-Decl e).name (is_some (out-Decl e).size) (told_alike (r.typed s t a).all)

pub all_candidates : {s t : Scope} → AreScopes s t → {ds es : List Decl} → Pairs AreDecls ds es → map (candidate s) ds ≡ map (candidate t) es
all_candidates {s = s} {t = t} a h = pairs_map (candidate s) (candidate t) (λ d e r. candidates a r) h

-- ---- lengths

told_constants : {r s : Result Entity Fault} → AreTold r s → entity_constant r ≡ entity_constant s
told_constants (Oks (entity.Constant c)) = refl
told_constants (Oks (entity.Global g o)) = refl
told_constants (Oks (entity.Function f)) = refl
told_constants (Errs f g) = refl

told_globals : {r s : Result Entity Fault} → AreTold r s → entity_global r ≡ entity_global s
told_globals (Oks (entity.Constant c)) = refl
told_globals (Oks (entity.Global g o)) = refl
told_globals (Oks (entity.Function f)) = refl
told_globals (Errs f g) = refl

no_lengths : (is_declared : Bool) (at there p q : Place) → AreAlike (no_length is_declared at p) (no_length is_declared there q)
no_lengths true at there p q = Wrongs _ _
no_lengths false at there p q = Wrongs _ _

or_globals : (is_declared : Bool) (at there p q : Place) (g : Option ℕ) → AreAlike (or_global is_declared at p g) (or_global is_declared there q g)
or_globals is_declared at there p q None = no_lengths is_declared at there p q
or_globals is_declared at there p q (Some g) = Rights _

or_siblings : (i : Option ℕ) {c d : Checked Ann} → AreAlike c d → AreAlike (or_sibling i c) (or_sibling i d)
or_siblings None h = h
or_siblings (Some i) h = Rights _

or_constants : (n : Option ℕ) {c d : Checked Ann} → AreAlike c d → AreAlike (or_constant n c) (or_constant n d)
or_constants None h = h
or_constants (Some n) h = Rights _

abbrev length_by : List Candidate → (at p : Place) → List ℕ → (is_declared : Bool) → (constant global : Option ℕ) → Checked Ann
length_by siblings at p name is_declared n g = or_constant n (or_sibling (sibling_named siblings name) (or_global (is_declared || has_sibling siblings name) at p g))

lengths_by : (siblings : List Candidate) (at there p q : Place) (name : List ℕ) (is_declared : Bool) (n g : Option ℕ) → AreAlike (length_by siblings at p name is_declared n g) (length_by siblings there q name is_declared n g)
lengths_by siblings at there p q name is_declared n g = or_constants n (or_siblings (sibling_named siblings name) (or_globals (is_declared || has_sibling siblings name) at there p q g))

lengths_named : (siblings : List Candidate) (at there p q : Place) (name : List ℕ) {n m : Option Named} → Perhaps AreNamed n m → AreAlike (length_named siblings at p name n) (length_named siblings there q name m)
lengths_named siblings at there p q name Nones = lengths_by siblings at there p q name false None None
lengths_named siblings at there p q name (Somes {x = x} {y = y} r) =
    subst (λ o. AreAlike (length_by siblings at p name true (entity_constant x.means) (entity_global x.means)) (length_by siblings there q name true o (entity_global y.means))) (told_constants r.mean)
    (subst (λ o. AreAlike (length_by siblings at p name true (entity_constant x.means) (entity_global x.means)) (length_by siblings there q name true (entity_constant x.means) o)) (told_globals r.mean)
    (lengths_by siblings at there p q name true (entity_constant x.means) (entity_global x.means)))

array_lengths : {s t : Scope} → AreScopes s t → (siblings : List Candidate) (p q : Place) {c d : Const} → AreConsts c d → AreAlike (array_length s siblings p c) (array_length t siblings q d)
array_lengths a siblings p q (Numbers at there b n k) = or_constants (as_length (number_constant b n k).number) (Wrongs _ _)
array_lengths a siblings p q (Worded at there name) = lengths_named siblings at there p q name (entity_alike a name)

-- ---- sentinels

fields_suit : (p q : Place) (f : ℕ) (o : Option Candidate) → AreAlike (field_suits p f o) (field_suits q f o)
fields_suit p q f None = Wrongs _ _
fields_suit p q f (Some c) = chosen_alike c.is_scalar (Rights _) (Wrongs _ _)

sentinels_at : (fields : List Candidate) (at there p q : Place) (f : Option ℕ) → AreAlike (sentinel_at fields at p f) (sentinel_at fields there q f)
sentinels_at fields at there p q None = Wrongs _ _
sentinels_at fields at there p q (Some f) = fields_suit p q f (slice_get fields f)

sentinels_among : (at there p q : Place) (name : List ℕ) (o : Option (List Candidate)) → AreAlike (sentinel_among at p name o) (sentinel_among there q name o)
sentinels_among at there p q name None = Wrongs _ _
sentinels_among at there p q name (Some fields) = sentinels_at fields at there p q (field_named fields name)

sentinels_of : {s t : Scope} → AreScopes s t → (at there p q : Place) (name : List ℕ) (l : Ty-F Ty) → AreAlike (sentinel_of s at p name l) (sentinel_of t there q name l)
sentinels_of a at there p q name (Ty-F.Int k) = Wrongs _ _
sentinels_of a at there p q name Ty-F.Lock = Wrongs _ _
sentinels_of {s = s} a at there p q name (Ty-F.Struct n) =
    subst (λ (os : List (List Candidate)). AreAlike (sentinel_among at p name (slice_get s.outlines n)) (sentinel_among there q name (slice_get os n))) a.outline
    (sentinels_among at there p q name (slice_get s.outlines n))
sentinels_of a at there p q name (Ty-F.Ptr u) = Wrongs _ _
sentinels_of a at there p q name Ty-F.VoidPtr = Wrongs _ _
sentinels_of a at there p q name (Ty-F.Fun us) = Wrongs _ _
sentinels_of a at there p q name Ty-F.Void = Wrongs _ _

sentinels_on : {s t : Scope} → AreScopes s t → (at there p q : Place) (name : List ℕ) (u : Option Ty) → AreAlike (sentinel_on s at p name u) (sentinel_on t there q name u)
sentinels_on a at there p q name None = Wrongs _ _
sentinels_on a at there p q name (Some u) = sentinels_of a at there p q name (out-Ty u)

-- ---- annotations

arrays_on : {s t : Scope} → AreScopes s t → (siblings : List Candidate) (p q : Place) {c d : Const} → AreConsts c d → (u : Option Ty) → AreAlike (array_on s siblings p c u) (array_on t siblings q d u)
arrays_on a siblings p q r None = Wrongs _ _
arrays_on a siblings p q r (Some u) = array_lengths a siblings p q r

suited : (p q : Place) (b : Bool) (x : Ann) → AreAlike (suits_if p b x) (suits_if q b x)
suited p q true x = Rights _
suited p q false x = Wrongs _ _

pub annotations : {s t : Scope} → AreScopes s t → (siblings : List Candidate) (p q : Place) (u : Ty) {x y : Option AnnText} → Perhaps AreTexts x y → AreAlike (annotated s siblings p u x) (annotated t siblings q u y)
annotations a siblings p q u Nones = Rights _
annotations a siblings p q u (Somes (Arrays r)) = arrays_on a siblings p q r (target_by (out-Ty u))
annotations a siblings p q u (Somes (Sentinels at there name)) = sentinels_on a at there p q name (target_by (out-Ty u))
annotations a siblings p q u (Somes Terms) = suited p q _ _
annotations a siblings p q u (Somes Opaques) = suited p q _ _

-- ---- annotations within declarators

own_annotations : {s t : Scope} → AreScopes s t → (siblings : List Candidate) {ds es : List Decl} {d e : Decl} → Pairs AreDecls ds es → AreDecls d e → AreAlike (own_annotation s siblings ds d) (own_annotation t siblings es e)
unfolding own_annotation
own_annotations {s = s} {t = t} a siblings {d = d} {e = e} h r = after_alike (parameters_among (typed_both h s t a) (r.typed s t a)) (λ u. annotations a siblings (out-Decl d).place (out-Decl e).place u r.ann)

pub around_both : (around : List Candidate) {ds es : List Decl} → Pairs AreDecls ds es → names_around around ds ≡ names_around around es
around_both around h = ap (λ (cs : List Candidate). around ++ cs) (pairs_map (λ (d : Decl). bare (out-Decl d).name) (λ (d : Decl). bare (out-Decl d).name) (λ d e r. ap (λ (n : Option (List ℕ)). bare n) r.named) h)

module _ {s t : Scope} (a : AreScopes s t) where
  -- a declaration, and the annotations within it
  record AreInners (x y : Inner) : Type 0 where
    decl_both : AreDecls x.decl y.decl
    within_both : (around : List Candidate) → AreAlike (x.annotations around) (y.annotations around)

  inners_among : (around siblings : List Candidate) {ds es : List Decl} {x y : Inner} → Pairs AreDecls ds es → AreInners x y → AreAlike (inner_among s around siblings ds x) (inner_among t around siblings es y)
  inners_among around siblings {ds = ds} {es = es} {x = x} {y = y} h r =
      both_alike (subst (λ cs. AreAlike (x.annotations (names_around around ds)) (y.annotations cs)) (around_both around h) (r.within_both (names_around around ds))) (own_annotations a siblings h r.decl_both) (λ u v. Rights _)

  inner_lists : (around siblings : List Candidate) {xs ys : List Inner} → Pairs AreInners xs ys → (ds es : List Decl) → Pairs AreDecls ds es → AreAlike (inner_list s around siblings ds xs) (inner_list t around siblings es ys)
  unfolding inner_list
  inner_lists around siblings Nil ds es h = Rights _
  inner_lists around siblings (Cons {x = x} {y = y} r rs) ds es h = next_alike (inners_among around siblings h r) (inner_lists around siblings rs (ds ++ x.decl ∷ []) (es ++ y.decl ∷ []) (one_more h r.decl_both))

  inners_by : {o p : Option (List Inner)} → Perhaps (Pairs AreInners) o p → (around : List Candidate) → AreAlike (inner_by s o around) (inner_by t p around)
  inners_by Nones around = Rights _
  inners_by (Somes {x = xs} {y = ys} r) around =
      subst (λ cs. AreAlike (inner_list s around (inner_siblings s around xs) [] xs) (inner_list t around cs [] ys)) (ap (λ (cs : List Candidate). cs ++ around) (pairs_map (λ (x : Inner). candidate s x.decl) (λ (x : Inner). candidate t x.decl) (λ x y k. candidates a k.decl_both) r))
      (inner_lists around (inner_siblings s around xs) r [] [] Nil)

  record Good (d : Decl) : Type 0 where
    by : (around : List Candidate) → AreAlike ((inner s d).annotations around) ((inner t (unplaced_decl d)).annotations around)

  inners_of : (d : Decl) → Good d → AreInners (inner s d) (inner t (unplaced_decl d))
  inners_of d good = record {
    decl_both = subst (λ x. AreDecls x (inner t (unplaced_decl d)).decl) (sym (decl_is s d)) (subst (λ y. AreDecls d y) (sym (decl_is t (unplaced_decl d))) (decls d));
    within_both = good.by;
  }

  all_inners : {X : Type 0} (of : X → Decl) → ((x : X) → Good (of x)) → (xs : List X) → Pairs AreInners (map (inner s) (map of xs)) (map (inner t) (map unplaced_decl (map of xs)))
  all_inners of good [] = Nil
  all_inners of good (x ∷ xs) = Cons (inners_of (of x) (good x)) (all_inners of good xs)

  within_layer : (d e : Decl) (k l : Decl-F Decl) (o p : Option (List Inner)) → d ≡ roll-Decl k → e ≡ roll-Decl l → (map-Decl Decl Inner (inner s) k).fun ≡ o → (map-Decl Decl Inner (inner t) l).fun ≡ p
      → Perhaps (Pairs AreInners) o p → (around : List Candidate) → AreAlike ((inner s d).annotations around) ((inner t e).annotations around)
  within_layer d e k l o p is also one other h around =
      subst (λ c. AreAlike c ((inner t e).annotations around)) (sym (ap (λ (x : Decl). (inner s x).annotations around) is ∙ ap (λ (x : Inner). x.annotations around) (fold-roll-Decl Inner (inner_layer s) k) ∙ ap (λ (x : Option (List Inner)). inner_by s x around) one))
      (subst (λ c. AreAlike (inner_by s o around) c) (sym (ap (λ (x : Decl). (inner t x).annotations around) also ∙ ap (λ (x : Inner). x.annotations around) (fold-roll-Decl Inner (inner_layer t) l) ∙ ap (λ (x : Option (List Inner)). inner_by t x around) other))
      (inners_by h around))

  good_by : {X : Type 0} (of : X → Decl) → ((x : X) → Good (of x)) → (p : Place) (name : Option (List ℕ)) (b : Base) (n : ℕ) (size : Option Const) (fun : Option (List X)) (ann : Option AnnText)
      → Good (roll-Decl (declaration_of p name b n size (option_map (map of) fun) ann))
  good_by of good p name b n size None ann = record { by = within_layer _ _ (declaration_of p name b n size None ann) (declaration_of nowhere name (unplaced_base b) n (option_map unplaced_const size) None (option_map unplaced_annotation ann)) None None refl (decl_made p name b n size None ann) refl refl Nones }
  good_by of good p name b n size (Some xs) ann = record {
    by = within_layer _ _ (declaration_of p name b n size (Some (map of xs)) ann) (declaration_of nowhere name (unplaced_base b) n (option_map unplaced_const size) (Some (map unplaced_decl (map of xs))) (option_map unplaced_annotation ann))
        (Some (map (inner s) (map of xs))) (Some (map (inner t) (map unplaced_decl (map of xs)))) refl (decl_made p name b n size (Some (map of xs)) ann) refl refl (Somes (all_inners of good xs));
  }

  good_layer : {X : Type 0} (of : X → Decl) → ((x : X) → Good (of x)) → (l : Decl-F X) → Good (roll-Decl (map-Decl X Decl of l))
  good_layer of good l = subst (λ k. Good (roll-Decl k)) (sym (mapped of l l.fun refl)) (good_by of good l.place l.name l.base l.stars l.size l.fun l.ann)

  good_decls : (d : Decl) → Good d
  good_decls = ind-Decl Good (λ x y is. subst (λ k. Good (roll-Decl k)) is (good_layer (λ e. e.0) (λ e. e.1) y))

  pub withins : (around : List Candidate) (d : Decl) → AreAlike (within s around d) (within t around (unplaced_decl d))
  unfolding within
  withins around d = (good_decls d).by around

-- ---- declarations in all that is judged of them

pub record AreWhole (d e : Decl) : Type 0 where
  pub decl : AreDecls d e
  pub inside : (s t : Scope) → AreScopes s t → (around : List Candidate) → AreAlike (within s around d) (within t around e)
  pub short : AreAlike (good_params d) (good_params e)

pub wholes : (d : Decl) → AreWhole d (unplaced_decl d)
wholes d = record { decl = decls d; inside = λ s t a around. withins a around d; short = good_params_both d }

pub decls_of : {ds es : List Decl} → Pairs AreWhole ds es → Pairs AreDecls ds es
decls_of Nil = Nil
decls_of (Cons r rs) = Cons r.decl (decls_of rs)
