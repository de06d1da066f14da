-- The rules of structs and of enumerations look at no place.
use Rattle.mdr_core.specs.declared.place.Place.{Place}
use Rattle.mdr_faults.specs.Declarations.{cells_of, is_same_name}
use Rattle.mdr_faults.specs.Enums.{behind_enumerator, behind_enumerators, constant_means, enumerators, new_name, value_behind}
use Rattle.mdr_faults.specs.Faults.{Checked}
use Rattle.mdr_faults.specs.Scopes.{entity_among, tag_named}
use Rattle.mdr_faults.specs.declared.fault.Fault.{Fault}
use Rattle.mdr_faults.specs.declared.fault.FaultKind.TheVariants.{Limit, Redefined}
use Rattle.mdr_faults.specs.declared.scope.Candidate.{Candidate}
use Rattle.mdr_faults.specs.declared.scope.Constant.{Constant}
use Rattle.mdr_faults.specs.declared.scope.Scope.{Scope}
use Rattle.mdr_faults.specs.declared.scope.StructEntry.{StructEntry}
use Rattle.mdr_faults.specs.declared.scope.Tag.{Tag}
use Rattle.mdr_headings.specs.Annotations.{candidate}
use Rattle.mdr_headings.specs.Source.{behind_struct, is_numbered, with_struct_if}
use Rattle.mdr_headings.specs.Structs.{annotated_field, cells_of_fields, field_among, fields_behind, name_or_none, struct_fields}
use Rattle.mdr_placeless.proofs.Annotated.{AreWhole, all_candidates, annotations, decls_of}
use Rattle.mdr_placeless.proofs.Combined.{after_alike, both_alike, chosen_alike, demand_by, next_alike, rights_by}
use Rattle.mdr_placeless.proofs.Constants.{AreConsts, consts, enumerator_values, pairs_each, perhaps_map}
use Rattle.mdr_placeless.proofs.Declared.{AreDecls, cells_alike, objects, same_names}
use Rattle.mdr_placeless.proofs.Headings.{named_both}
use Rattle.mdr_placeless.proofs.Scopes.{AreEntries, AreMembers, AreScopes, AreTold, Pairs, Perhaps, again_alike, one_more, pairs_any, pairs_length, pairs_over, structs_length, tag_alike, taken_alike, told_alike}
use Rattle.mdr_placeless.proofs.Scopes.AreTold.{Errs, Oks}
use Rattle.mdr_placeless.proofs.Scopes.Pairs.{Cons, Nil}
use Rattle.mdr_placeless.specs.Alike.{AreAlike}
use Rattle.mdr_placeless.specs.Alike.AreAlike.{Rights, Wrongs}
use Rattle.mdr_roundtrip.specs.Initialised.{unplaced_const}
use Rattle.mdr_roundtrip.specs.Itemised.{unplaced_enumerator}
use Rattle.mdr_syntax.specs.declared.tree.Enumerator.{Enumerator}
use Rattle.std.proofs.Common.{Bool, List, Option, Result, [], ap, false, is_some, length, map, nat_lt, not, refl, subst, true, ℕ, ◌++◌, ◌+◌, ◌==◌, ◌∙◌, ◌∷◌, ◌≡◌}
use Rattle.mdr_core.specs.declared.program.Field.{Field}
use Rattle.mdr_faults.specs.declared.scope.Object.{Object}
use Rattle.mdr_headings.specs.Structs.{struct_entry, field_of, member, struct_size, struct_rule, within_limit, number_or_zero}
use Rattle.mdr_syntax.specs.declared.tree.Decl.{Decl, out-Decl}
use Rattle.std.specs.Prelude.{◌*◌}

-- ---- structs

annotated_fields : {s t : Scope} → AreScopes s t → (siblings : List Candidate) {d e : Decl} → AreDecls d e → (o : Object) → AreAlike (annotated_field s siblings d o) (annotated_field t siblings e o)
unfolding annotated_field
annotated_fields a siblings {d = d} {e = e} r o = after_alike (annotations a siblings (out-Decl d).place (out-Decl e).place o.ty r.ann) (λ x. rights_by (ap (λ (n : Option (List ℕ)). field_of n o x) r.named))

fields_among : {s t : Scope} → AreScopes s t → (l m : Place) (siblings : List Candidate) {ds es : List Decl} {d e : Decl} → Pairs AreDecls ds es → AreWhole d e → AreAlike (field_among s l siblings ds d) (field_among t m siblings es e)
unfolding field_among
fields_among {s = s} {t = t} a l m siblings {ds = ds} {es = es} {d = d} {e = e} h r =
    demand_by (out-Decl d).place (out-Decl e).place Redefined _ _ (ap (λ b. not b) (pairs_any (λ (b : Decl). is_same_name (out-Decl b).name (out-Decl d).name) (λ (b : Decl). is_same_name (out-Decl b).name (out-Decl e).name) (λ b c k. same_names (out-Decl b).name (out-Decl c).name (out-Decl d).name (out-Decl e).name k.named r.decl.named) h))
    (demand_by (out-Decl d).place (out-Decl e).place Limit _ _ (ap (λ n. not (n == 64)) (pairs_length h))
    (both_alike (r.inside s t a []) (after_alike (objects a l m r.decl) (annotated_fields a siblings r.decl)) (λ x y. Rights _)))

fields_from : {s t : Scope} → AreScopes s t → (l m : Place) (siblings : List Candidate) {ds es : List Decl} → Pairs AreWhole ds es → (ds' es' : List Decl) → Pairs AreDecls ds' es' → AreAlike (fields_behind s l siblings ds' ds) (fields_behind t m siblings es' es)
unfolding fields_behind
fields_from a l m siblings Nil ds' es' h = Rights _
fields_from a l m siblings (Cons {x = x} {y = y} r rs) ds' es' h = next_alike (fields_among a l m siblings h r) (fields_from a l m siblings rs (ds' ++ x ∷ []) (es' ++ y ∷ []) (one_more h r.decl))

number_both : {c d : Checked ℕ} → AreAlike c d → number_or_zero c ≡ number_or_zero d
number_both (Rights n) = refl
number_both (Wrongs f g) = refl

cells_from : {s t : Scope} → AreScopes s t → (p q : Place) (xs : List Field) → cells_of_fields s p xs ≡ cells_of_fields t q xs
unfolding cells_of_fields
cells_from a p q [] = refl
cells_from {s = s} {t = t} a p q (x ∷ xs) = ap (λ n. x.count * n + cells_of_fields s p xs) (number_both (cells_alike a p q x.ty)) ∙ ap (λ n. x.count * number_or_zero (cells_of t q x.ty) + n) (cells_from a p q xs)

limits : (p q : Place) (n : ℕ) → AreAlike (within_limit p n) (within_limit q n)
limits p q n = chosen_alike (nat_lt 65536 n) (Wrongs _ _) (Rights _)

sizes_both : {s t : Scope} → AreScopes s t → (p q : Place) (xs : List Field) → AreAlike (struct_size s p xs) (struct_size t q xs)
sizes_both {s = s} a p q xs = subst (λ n. AreAlike (within_limit p (cells_of_fields s p xs)) (within_limit q n)) (cells_from a p q xs) (limits p q (cells_of_fields s p xs))

rules_of : {s t : Scope} → AreScopes s t → (p q : Place) (xs : List Field) → AreAlike (struct_rule s p xs) (struct_rule t q xs)
rules_of a p q [] = Wrongs _ _
rules_of a p q (x ∷ xs) = after_alike (sizes_both a p q (x ∷ xs)) (λ n. Rights _)

pub fields_both : {s t : Scope} → AreScopes s t → (p q : Place) {ds es : List Decl} → Pairs AreWhole ds es → AreAlike (struct_fields s p ds) (struct_fields t q es)
unfolding struct_fields
fields_both {s = s} {t = t} a p q {ds = ds} {es = es} h =
    after_alike (subst (λ cs. AreAlike (fields_behind s p (map (candidate s) ds) [] ds) (fields_behind t q cs [] es)) (all_candidates a (decls_of h)) (fields_from a p q (map (candidate s) ds) h [] [] Nil)) (rules_of a p q)

members_both : {s t : Scope} → AreScopes s t → (p q : Place) {d e : Decl} → AreDecls d e → AreMembers (member s p d) (member t q e)
unfolding member
members_both a p q r = record { named = ap (λ (n : Option (List ℕ)). name_or_none n) r.named; mean = told_alike (objects a p q r) }

entries_both : {s t : Scope} → AreScopes s t → (p q : Place) {ds es : List Decl} → Pairs AreWhole ds es → AreEntries (struct_entry s p ds) (struct_entry t q es)
unfolding struct_entry
entries_both {s = s} {t = t} a p q h = record {
  member = pairs_over (member s p) (member t q) (λ d e r. members_both a p q r.decl) h;
  cell = told_alike (after_alike (fields_both a p q h) (sizes_both a p q));
}

struct_if : {s t : Scope} → AreScopes s t → (b : Bool) {d e : StructEntry} → AreEntries d e → AreScopes (with_struct_if b s d) (with_struct_if b t e)
struct_if a true h = record { tag = a.tag; define = a.define; named = a.named; outline = a.outline; struct = one_more a.struct h }
struct_if a false h = a

pub numbered_as : {s t : Scope} → AreScopes s t → (name : List ℕ) → is_numbered (tag_named s name) (length s.structs) ≡ is_numbered (tag_named t name) (length t.structs)
numbered_as {s = s} {t = t} a name = ap (λ (o : Option Tag). is_numbered o (length s.structs)) (tag_alike a name) ∙ ap (λ n. is_numbered (tag_named t name) n) (structs_length a)

pub struct_behind : {s t : Scope} → AreScopes s t → (p q : Place) (name : List ℕ) {ds es : List Decl} → Pairs AreWhole ds es → AreScopes (behind_struct s p name ds) (behind_struct t q name es)
struct_behind {s = s} {t = t} a p q name {ds = ds} {es = es} h =
    subst (λ b. AreScopes (behind_struct s p name ds) (with_struct_if b t (struct_entry t q es))) (numbered_as a name) (struct_if a (is_numbered (tag_named s name) (length s.structs)) (entries_both a p q h))

-- ---- enumerations

pub record AreEnumerators (e f : Enumerator) : Type 0 where
  pub called : e.name ≡ f.name
  pub value_both : Perhaps AreConsts e.value f.value

pub enumerators_both : (es : List Enumerator) → Pairs AreEnumerators es (map unplaced_enumerator es)
enumerators_both es = pairs_each unplaced_enumerator (λ e. record { called = refl; value_both = perhaps_map unplaced_const consts e.value }) es

pub new_names : {A : Type 0} {s t : Scope} → AreScopes s t → (p q : Place) (m n : List ℕ) → m ≡ n → {c d : Checked A} → AreAlike c d → AreAlike (new_name s p m c) (new_name t q n d)
new_names {s = s} {t = t} a p q m n e h = demand_by p q Redefined _ _ (ap (λ b. not b) (taken_alike a m ∙ ap (λ (x : List ℕ). is_some (entity_among t.names x)) e)) h

told_means : {r q : Result Constant Fault} → AreTold r q → AreTold (constant_means r) (constant_means q)
told_means (Oks c) = Oks _
told_means (Errs f g) = Errs _ _

values_both : {s t : Scope} → AreScopes s t → {r q : Result Constant Fault} → AreTold r q → {e f : Enumerator} → AreEnumerators e f → AreAlike (value_behind s r e) (value_behind t q f)
values_both a h {e = e} {f = f} k = enumerator_values a e.place f.place (again_alike h) k.value_both

scopes_past : {s t : Scope} → AreScopes s t → {r q : Result Constant Fault} → AreTold r q → {e f : Enumerator} → AreEnumerators e f → AreScopes (behind_enumerator s r e) (behind_enumerator t q f)
scopes_past a h {e = e} {f = f} k = named_both a e.name f.name k.called (told_means (told_alike (values_both a h k)))

pub enumerators_from : {es fs : List Enumerator} → Pairs AreEnumerators es fs → {s t : Scope} → AreScopes s t → {r q : Result Constant Fault} → AreTold r q → AreAlike (enumerators s r es) (enumerators t q fs)
unfolding enumerators
enumerators_from Nil a h = Rights _
enumerators_from (Cons {x = e} {y = f} k ks) a h = next_alike (new_names a e.place f.place e.name f.name k.called (values_both a h k)) (enumerators_from ks (scopes_past a h k) (told_alike (values_both a h k)))

pub enumerators_past : {es fs : List Enumerator} → Pairs AreEnumerators es fs → {s t : Scope} → AreScopes s t → {r q : Result Constant Fault} → AreTold r q → AreScopes (behind_enumerators s r es) (behind_enumerators t q fs)
unfolding behind_enumerators
enumerators_past Nil a h = a
enumerators_past (Cons k ks) a h = enumerators_past ks (scopes_past a h k) (told_alike (values_both a h k))
