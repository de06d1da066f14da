-- The rules of headings look at no place.
use Rattle.mdr_core.specs.Folds.{before}
use Rattle.mdr_core.specs.declared.place.Place.{Place}
use Rattle.mdr_faults.specs.Declarations.{result_type, type_named}
use Rattle.mdr_faults.specs.Enums.{with_name}
use Rattle.mdr_faults.specs.Faults.{Checked, Right, after, told}
use Rattle.mdr_faults.specs.declared.fault.Fault.{Fault}
use Rattle.mdr_faults.specs.declared.fault.FaultKind.TheVariants.{Limit, Mismatch, Redefined}
use Rattle.mdr_faults.specs.declared.scope.Candidate.{Candidate}
use Rattle.mdr_faults.specs.declared.scope.Entity.{Entity}
use Rattle.mdr_faults.specs.declared.scope.Scope.{Scope}
use Rattle.mdr_headings.specs.Annotations.{bare, candidate}
use Rattle.mdr_headings.specs.Functions.{agrees, agrees_with, behind_function, declared_unless, function_declared, function_means, function_named, function_rule, functions_behind, has_body, may_stand, with_function_unless}
use Rattle.mdr_headings.specs.Source.{signature}
use Rattle.mdr_headings.specs.Within.{names_around, within}
use Rattle.mdr_headings.specs.declared.function.Declared.{Declared}
use Rattle.mdr_headings.specs.declared.head.Heading.{Heading}
use Rattle.mdr_placeless.proofs.Annotated.{AreWhole, all_candidates, annotations, around_both, decls_of, wholes}
use Rattle.mdr_placeless.proofs.Combined.{after_alike, both_alike, demand_alike, demand_by, next_alike, rights_by}
use Rattle.mdr_placeless.proofs.Constants.{AreBases, AreTexts, bases, pairs_each, perhaps_map, result_types, texts, types_named}
use Rattle.mdr_placeless.proofs.Declared.{AreDecls, parameter_lists, parameters_among, typed_both}
use Rattle.mdr_placeless.proofs.Scopes.{AreScopes, AreTold, Pairs, Perhaps, one_more, pairs_find, pairs_length, taken_alike, told_alike, with_name_alike}
use Rattle.mdr_placeless.proofs.Scopes.AreTold.{Errs, Oks}
use Rattle.mdr_placeless.proofs.Scopes.Pairs.{Cons, Nil}
use Rattle.mdr_placeless.proofs.Scopes.Perhaps.{Nones, Somes}
use Rattle.mdr_placeless.specs.Alike.{AreAlike}
use Rattle.mdr_placeless.specs.Alike.AreAlike.{Rights}
use Rattle.mdr_roundtrip.specs.Declarations.{unplaced_annotation, unplaced_decl}
use Rattle.mdr_roundtrip.specs.Itemised.{unplaced_head}
use Rattle.mdr_syntax.specs.declared.tree.Head.{Head}
use Rattle.mdr_syntax.specs.declared.tree.Item.{Item}
use Rattle.std.proofs.Common.{Bool, List, Option, Result, Some, [], ap, bytes_eq, false, length, map, not, refl, subst, true, ℕ, ◌&&◌, ◌++◌, ◌==◌, ◌||◌, ◌∙◌, ◌∷◌, ◌≡◌}
use Rattle.mdr_core.specs.declared.types.Ann.{Ann}
use Rattle.mdr_core.specs.declared.types.Ty.{Ty}
use Rattle.mdr_faults.specs.declared.scope.Signature.{Signature}
use Rattle.mdr_headings.specs.Functions.{is_taken}
use Rattle.mdr_headings.specs.Heads.{given, heading, head_result, typed_result, param_of, param_among, params_behind, annotated_param, result_siblings}
use Rattle.mdr_syntax.specs.declared.tree.Decl.{Decl, out-Decl}

-- ---- heads

pub record AreHeads (h k : Head) : Type 0 where
  pub named : h.name ≡ k.name
  pub bases_both : AreBases h.base k.base
  pub stars_both : h.stars ≡ k.stars
  pub params_both : Pairs AreWhole h.params k.params
  pub ann_both : Perhaps AreTexts h.ann k.ann

pub heads : (h : Head) → AreHeads h (unplaced_head h)
heads h = record { named = refl; bases_both = bases h.base; stars_both = refl; params_both = pairs_each unplaced_decl wholes h.params; ann_both = perhaps_map unplaced_annotation texts h.ann }

-- ---- parameters

params_named : (m n : Option (List ℕ)) (u : Ty) (x : Ann) → m ≡ n → AreAlike (Right (param_of m u x)) (Right (param_of n u x))
params_named m n u x e = rights_by (ap (λ (o : Option (List ℕ)). param_of o u x) e)

annotated_params : {s t : Scope} → AreScopes s t → (siblings : List Candidate) {d e : Decl} → AreDecls d e → (u : Ty) → AreAlike (annotated_param s siblings d u) (annotated_param t siblings e u)
unfolding annotated_param
annotated_params a siblings {d = d} {e = e} r u = after_alike (annotations a siblings (out-Decl d).place (out-Decl e).place u r.ann) (λ x. params_named (out-Decl d).name (out-Decl e).name u x r.named)

params_among : {s t : Scope} → AreScopes s t → (siblings : List Candidate) {ds es : List Decl} {d e : Decl} → Pairs AreDecls ds es → AreWhole d e → AreAlike (param_among s siblings ds d) (param_among t siblings es e)
unfolding param_among
params_among {s = s} {t = t} a siblings {ds = ds} {es = es} {d = d} {e = e} h r =
    both_alike (subst (λ cs. AreAlike (within s (names_around [] ds) d) (within t cs e)) (around_both [] h) (r.inside s t a (names_around [] ds)))
    (after_alike (parameters_among (typed_both h s t a) (r.decl.typed s t a)) (annotated_params a siblings r.decl))
    (λ x y. Rights _)

param_lists : {s t : Scope} → AreScopes s t → (siblings : List Candidate) {ds es : List Decl} → Pairs AreWhole ds es → (ds' es' : List Decl) → Pairs AreDecls ds' es' → AreAlike (params_behind s siblings ds' ds) (params_behind t siblings es' es)
unfolding params_behind
param_lists a siblings Nil ds' es' h = Rights _
param_lists a siblings (Cons {x = x} {y = y} r rs) ds' es' h = next_alike (params_among a siblings h r) (param_lists a siblings rs (ds' ++ x ∷ []) (es' ++ y ∷ []) (one_more h r.decl))

-- ---- results

pub head_results : {s t : Scope} → AreScopes s t → {h k : Head} → AreHeads h k → AreAlike (head_result s h) (head_result t k)
unfolding head_result
head_results {s = s} {t = t} a {h = h} {k = k} r =
    subst (λ n. AreAlike (after (type_named s h.base h.stars) (result_type h.place)) (after (type_named t k.base n) (result_type k.place))) r.stars_both
    (after_alike (types_named a r.bases_both h.stars) (result_types h.place k.place))

typed_results : {s t : Scope} → AreScopes s t → {h k : Head} → AreHeads h k → AreAlike (typed_result s h) (typed_result t k)
unfolding typed_result
typed_results {s = s} {t = t} a r = both_alike (head_results a r) (parameter_lists (typed_both (decls_of r.params_both) s t a) [] [] Nil) (λ u us. Rights _)

results_given : {s t : Scope} → AreScopes s t → (siblings : List Candidate) {h k : Head} → AreHeads h k → AreAlike (given s siblings h) (given t siblings k)
unfolding given
results_given a siblings {h = h} {k = k} r = after_alike (typed_results a r) (λ u. after_alike (annotations a siblings h.place k.place u r.ann_both) (λ x. Rights _))

siblings_both : {s t : Scope} → AreScopes s t → {h k : Head} → AreHeads h k → result_siblings s h ≡ result_siblings t k
siblings_both {s = s} {t = t} a {h = h} {k = k} r =
    ap (λ (cs : List Candidate). cs ++ bare (Some h.name) ∷ []) (all_candidates a (decls_of r.params_both))
    ∙ ap (λ (n : List ℕ). map (candidate t) k.params ++ bare (Some n) ∷ []) r.named

pub headings : {s t : Scope} → AreScopes s t → {h k : Head} → AreHeads h k → AreAlike (heading s h) (heading t k)
unfolding heading
headings {s = s} {t = t} a {h = h} {k = k} r = both_alike
    (subst (λ cs. AreAlike (given s (result_siblings s h) h) (given t cs k)) (siblings_both a r) (results_given a (result_siblings s h) r))
    (subst (λ cs. AreAlike (params_behind s (map (candidate s) h.params) [] h.params) (params_behind t cs [] k.params)) (all_candidates a (decls_of r.params_both)) (param_lists a (map (candidate s) h.params) r.params_both [] [] Nil))
    (λ x xs. Rights _)

pub signatures : {s t : Scope} → AreScopes s t → (n : ℕ) {h k : Head} → AreHeads h k → AreAlike (signature s n h) (signature t n k)
unfolding signature
signatures {s = s} {t = t} a n r = both_alike (head_results a r) (parameter_lists (typed_both (decls_of r.params_both) s t a) [] [] Nil) (λ u us. Rights _)

-- ---- functions so far

pub record AreFunctions (f g : Declared) : Type 0 where
  pub called : f.name ≡ g.name
  pub means : AreTold f.heading g.heading

function_both : {fs gs : List Declared} (name other : List ℕ) → name ≡ other → Pairs AreFunctions fs gs → Perhaps AreFunctions (function_named fs name) (function_named gs other)
function_both name other e h = pairs_find _ _ (λ f g r. ap (λ (n : List ℕ). bytes_eq n name) r.called ∙ ap (λ (n : List ℕ). bytes_eq g.name n) e) h

agree_both : {q q' r r' : Result Heading Fault} → AreTold q q' → AreTold r r' → agrees q r ≡ agrees q' r'
agree_both (Oks x) (Oks y) = refl
agree_both (Oks x) (Errs f g) = refl
agree_both (Errs f g) (Oks y) = refl
agree_both (Errs f g) (Errs f' g') = refl

agrees_both : {o p : Option Declared} {r r' : Result Heading Fault} → Perhaps AreFunctions o p → AreTold r r' → agrees_with o r ≡ agrees_with p r'
agrees_both Nones h = refl
agrees_both (Somes k) h = agree_both k.means h

stand_both : (is_taken : Bool) {o p : Option Declared} (second : Bool) → Perhaps AreFunctions o p → may_stand is_taken o second ≡ may_stand is_taken p second
stand_both false second h = refl
stand_both true second Nones = refl
stand_both true second (Somes r) = refl

rules_both : (p q : Place) (is_taken : Bool) {f g : Option Declared} (second : Bool) (n : ℕ) {c d : Checked Heading} → Perhaps AreFunctions f g → AreAlike c d → AreAlike (function_rule p is_taken f second n c) (function_rule q is_taken g second n d)
unfolding function_rule
rules_both p q is_taken second n h r =
    demand_by p q Redefined _ _ (stand_both is_taken second h)
    (demand_by p q Mismatch _ _ (agrees_both h (told_alike r))
    (demand_alike p q Limit (is_taken || not (n == 1024)) r))

taken_both : {s t : Scope} → AreScopes s t → (name other : List ℕ) → name ≡ other → is_taken s name ≡ is_taken t other
taken_both {t = t} a name other e = taken_alike a name ∙ ap (λ (n : List ℕ). is_taken t n) e

module _ {s t : Scope} (a : AreScopes s t) {h k : Head} (r : AreHeads h k) {fs gs : List Declared} (l : Pairs AreFunctions fs gs) where
  pub functions_declared : (before others : List Item) (is_body : Bool) → has_body before h.name ≡ has_body others k.name → AreAlike (function_declared s fs before h is_body) (function_declared t gs others k is_body)
  unfolding function_declared
  functions_declared before others is_body e =
      subst (λ b. AreAlike (function_rule h.place (is_taken s h.name) (function_named fs h.name) (is_body && has_body before h.name) (length fs) (heading s h)) (function_rule k.place b (function_named gs k.name) (is_body && has_body others k.name) (length gs) (heading t k))) (taken_both a h.name k.name r.named)
      (subst (λ b. AreAlike (function_rule h.place (is_taken s h.name) (function_named fs h.name) (is_body && has_body before h.name) (length fs) (heading s h)) (function_rule k.place (is_taken s h.name) (function_named gs k.name) (is_body && b) (length gs) (heading t k))) e
      (subst (λ n. AreAlike (function_rule h.place (is_taken s h.name) (function_named fs h.name) (is_body && has_body before h.name) (length fs) (heading s h)) (function_rule k.place (is_taken s h.name) (function_named gs k.name) (is_body && has_body before h.name) n (heading t k))) (pairs_length l)
      (rules_both h.place k.place (is_taken s h.name) (is_body && has_body before h.name) (length fs) (function_both h.name k.name r.named l) (headings a r))))

  declared_both : (is_taken : Bool) → Pairs AreFunctions (declared_unless is_taken fs h (told (heading s h))) (declared_unless is_taken gs k (told (heading t k)))
  declared_both true = l
  declared_both false = one_more l (record { called = r.named; means = told_alike (headings a r) })

  pub functions_both : Pairs AreFunctions (functions_behind s fs h) (functions_behind t gs k)
  unfolding functions_behind
  functions_both = subst (λ b. Pairs AreFunctions (functions_behind s fs h) (declared_unless b gs k (told (heading t k)))) (taken_both a h.name k.name r.named) (declared_both (is_taken s h.name))

told_functions : {q r : Result Signature Fault} → AreTold q r → AreTold (function_means q) (function_means r)
told_functions (Oks x) = Oks _
told_functions (Errs f g) = Errs _ _

pub named_both : {s t : Scope} → AreScopes s t → (m n : List ℕ) → m ≡ n → {q r : Result Entity Fault} → AreTold q r → AreScopes (with_name s m q) (with_name t n r)
named_both {s = s} {t = t} a m n e {q = q} {r = r} h = subst (λ (x : List ℕ). AreScopes (with_name s m q) (with_name t x r)) e (with_name_alike a m h)

module _ {s t : Scope} (a : AreScopes s t) {h k : Head} (r : AreHeads h k) (n : ℕ) where
  unless_both : (is_taken : Bool) → AreScopes (with_function_unless is_taken s n h) (with_function_unless is_taken t n k)
  unless_both true = a
  unless_both false = named_both a h.name k.name r.named (told_functions (told_alike (signatures a n r)))

  pub behind_both : AreScopes (behind_function s n h) (behind_function t n k)
  unfolding behind_function
  behind_both = subst (λ b. AreScopes (with_function_unless (is_taken s h.name) s n h) (with_function_unless b t n k)) (taken_both a h.name k.name r.named) (unless_both (is_taken s h.name))
