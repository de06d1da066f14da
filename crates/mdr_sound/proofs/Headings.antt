-- What stands before a function's body is sound.
use Rattle.std.proofs.Common.{◌≡◌, ℕ, ◌⊎◌, inl, inr, true, not, List, [], ◌∷◌, ◌++◌, map, length, Option, Some, is_some, slice_get, refl, sym, ap, subst, ◌∙◌}
use Rattle.std.specs.Prelude.{◌&&◌, ◌==◌}
use Rattle.mdr_core.specs.declared.program.Param.{Param}
use Rattle.mdr_core.specs.declared.program.Program.{Program}
use Rattle.mdr_core.specs.declared.types.Ty.{Ty}
use Rattle.mdr_core.specs.declared.types.Ty.TheVariants as type
use Rattle.mdr_core.specs.Sound.{Sibling, IsIntegerSibling, sibling_param}
use Rattle.mdr_core.specs.Types.{Scalar, HasNumber, sort_of, is_scalar}
use Rattle.mdr_syntax.specs.declared.tree.Decl.{Decl, out-Decl}
use Rattle.mdr_syntax.specs.declared.tree.Decl.TheOpen.{Decl-F}
use Rattle.mdr_syntax.specs.declared.tree.Decl.TheFolds.{fold_out-Decl, map-Decl}
use Rattle.mdr_syntax.specs.declared.tree.Head.{Head}
use Rattle.mdr_faults.specs.declared.fault.FaultKind.TheVariants.{Mismatch, Limit}
use Rattle.mdr_faults.specs.declared.scope.Candidate.{Candidate}
use Rattle.mdr_faults.specs.declared.scope.Scope.{Scope}
use Rattle.mdr_faults.specs.declared.scope.Signature.{Signature}
use Rattle.mdr_faults.specs.Declarations.{Declarator, declarator, declarator_layer, declarator_type, parameter_among, parameter_list, parameter_type, result_type, type_named}
use Rattle.mdr_faults.specs.Faults.{Right, after}
use Rattle.mdr_headings.specs.declared.head.Given.{Given}
use Rattle.mdr_headings.specs.declared.head.Heading.{Heading}
use Rattle.mdr_headings.specs.Annotations.{annotated, bare, candidate, is_integer}
use Rattle.mdr_headings.specs.Heads.{param_of, annotated_param, param_among, params_behind, given_by, annotated_result, head_result, typed_result, given, heading_of, result_siblings, heading}
use Rattle.mdr_headings.specs.Within.{names_around, within}
use Rattle.mdr_headings.specs.Source.{signature, signature_by}
use Rattle.mdr_sound.proofs.Rights.{after_right, both_right, same_right, demand_right, chosen_right}
use Rattle.mdr_sound.proofs.Alike.{left_of}
use Rattle.mdr_sound.specs.Declared.{SeesSiblings, IsSoundHeading, AreNumbered, IsSignatureOf}
use Rattle.mdr_sound.specs.Standing.{Stands}
use Rattle.mdr_sound.proofs.Reading.{get_map, get_mapped}
use Rattle.mdr_sound.proofs.NamedTypes.{declarator_good, type_named_some, result_type_is, parameter_list_is}
use Rattle.mdr_sound.proofs.Sorts.{is_result, handle_sort}
use Rattle.mdr_sound.proofs.Objects.{tags_numbered}
use Rattle.mdr_sound.proofs.Annotating.{annotation_sound, integer}
use Rattle.mdr_sound.proofs.Gathering.{Pairwise, pair_of_left, pair_of_right, gathered}
use Rattle.mdr_sound.proofs.Candidates.{candidate_integer}
use Rattle.mdr_sound.proofs.CountedItems.{last_or_before}
use Rattle.mdr_sound.proofs.Making.{typed_right}
use Rattle.mdr_sound.proofs.Scoping.{beside_right, same_declarator, same_result}

-- ---- parameters, as they are declared

layer_whole : (scope : Scope) (l : Decl-F Declarator) (t : Ty) → (declarator_layer scope l).parameter ≡ Right t → (declarator_layer scope l).whole ≡ Right t
layer_whole scope l t e =
    let a = after_right (declarator_type scope l) (parameter_type l.place (is_some l.size)) t e in
    let c = chosen_right (is_scalar a.value && not (is_some l.size)) (Right a.value) l.place Mismatch t a.made in
    a.right ∙ c.right

-- a declaration's type as a parameter is its type
pub parameter_whole : (scope : Scope) (d : Decl) (t : Ty) → (declarator scope d).parameter ≡ Right t → (declarator scope d).whole ≡ Right t
parameter_whole scope d =
    subst (λ (x : Declarator). (t : Ty) → x.parameter ≡ Right t → x.whole ≡ Right t) (sym (fold_out-Decl Declarator (declarator_layer scope) d)) (λ t e. layer_whole scope (map-Decl Decl Declarator (declarator scope) (out-Decl d)) t e)

pub record IsParamOf (scope : Scope) (siblings : List Candidate) (d : Decl) (x : Param) : Type 0 where
  pub type : (declarator scope d).parameter ≡ Right x.ty
  pub noted : annotated scope siblings (out-Decl d).place x.ty (out-Decl d).ann ≡ Right x.ann

among_is : (scope : Scope) (siblings : List Candidate) (before : List Decl) (d : Decl) (x : Param) → param_among scope siblings before d ≡ Right x → IsParamOf scope siblings d x
unfolding param_among annotated_param
among_is scope siblings before d x e =
    let earlier = map (declarator scope) before in
    let rule = after (parameter_among earlier (declarator scope d)) (annotated_param scope siblings d) in
    let c = after_right (parameter_among earlier (declarator scope d)) (annotated_param scope siblings d) x (beside_right (within scope (names_around [] before) d) rule x e) in
    let b = demand_right (declarator scope d).place Limit (not (length earlier == 8)) (declarator scope d).parameter c.value c.right in
    let n = after_right (annotated scope siblings (out-Decl d).place c.value (out-Decl d).ann) (λ a. Right (param_of (out-Decl d).name c.value a)) x c.made in
    subst (IsParamOf scope siblings d) (same_right (param_of (out-Decl d).name c.value n.value) x n.made) (record { type = b.right; noted = n.right })

params_are : (scope : Scope) (siblings : List Candidate) (ds : List Decl) (xs : List Param) → params_behind scope siblings [] ds ≡ Right xs → Pairwise (IsParamOf scope siblings) ds xs
unfolding params_behind
params_are scope siblings ds xs e = gathered (params_behind scope siblings) (param_among scope siblings) (IsParamOf scope siblings) (λ b. refl) (λ b d rest. refl) (λ b d x f. among_is scope siblings b d x f) [] ds xs e

sees_params : (scope : Scope) (siblings : List Candidate) (ds : List Decl) (xs : List Param) → Pairwise (IsParamOf scope siblings) ds xs → SeesSiblings (map (candidate scope) ds) (map sibling_param xs)
sees_params scope siblings ds xs params = record {
  integers = λ i c n h.
      let m = get_mapped (candidate scope) ds i c n in
      let p = pair_of_left (IsParamOf scope siblings) ds xs i m.item params m.names in
      let x = p.0 in
      let whole = parameter_whole scope m.item x.ty (p.1).related.type in
      let size = is_some (out-Decl m.item).size in
      let both : (is_integer x.ty && not size) ≡ true = sym (candidate_integer scope m.item x.ty whole) ∙ ap (λ (y : Candidate). y.is_integer) m.made ∙ h in
      let k = integer x.ty (left_of (is_integer x.ty) (not size) both) in
      record {
        sibling = sibling_param x;
        names = get_map sibling_param xs i x (p.1).right;
        single = refl;
        kind = k.0;
        integer = k.1;
      };
}

-- a name that is no length is as if it weren't there
sees_bare : (cs : List Candidate) (siblings : List Sibling) (name : Option (List ℕ)) → SeesSiblings cs siblings → SeesSiblings (cs ++ bare name ∷ []) siblings
sees_bare cs siblings name sees = record { integers = λ i c n h. by i c (last_or_before cs (bare name) i c n) h }
  where
    by : (i : ℕ) (c : Candidate) → (slice_get cs i ≡ Some c) ⊎ (bare name ≡ c) → c.is_integer ≡ true → IsIntegerSibling siblings i
    by i c (inl old) h = sees.integers i c old h
    by i c (inr new) h = let is : (bare name).is_integer ≡ true = ap (λ (x : Candidate). x.is_integer) new ∙ h in absurd cc

-- ---- headings

record IsHeadingOf (scope : Scope) (h : Head) (x : Heading) : Type 0 where
  result : head_result scope h ≡ Right x.result
  noted : annotated scope (result_siblings scope h) h.place x.result h.ann ≡ Right x.ann
  params : Pairwise (IsParamOf scope (map (candidate scope) h.params)) h.params x.params

heading_as : (scope : Scope) (h : Head) (x : Heading) → heading scope h ≡ Right x → IsHeadingOf scope h x
unfolding heading given
heading_as scope h x e =
    let candidates = map (candidate scope) h.params in
    let all = result_siblings scope h in
    let b = both_right (given scope all h) (params_behind scope candidates [] h.params) heading_of x e in
    let g = after_right (typed_result scope h) (annotated_result scope all h.place h.ann) b.left b.first in
    let r = typed_right scope h g.value g.right in
    let n = after_right (annotated scope all h.place g.value h.ann) (given_by g.value) b.left g.made in
    let same : record { ty = g.value; ann = n.value } ≡ b.left = same_right (record { ty = g.value; ann = n.value }) b.left n.made in
    let whole : record { result = b.left.ty; ann = b.left.ann; params = b.right } ≡ x = same_right (record { result = b.left.ty; ann = b.left.ann; params = b.right }) x b.made in
    subst (IsHeadingOf scope h) whole (record {
      result = r ∙ ap (λ (y : Given). Right y.ty) same;
      noted = subst (λ (y : Given). annotated scope all h.place y.ty h.ann ≡ Right y.ann) same n.right;
      params = params_are scope candidates h.params b.right b.second;
    })

pub head_result_is : (scope : Scope) (n : ℕ) (h : Head) (t : Ty) → AreNumbered scope n → head_result scope h ≡ Right t → (sort_of n t ≡ Scalar) ⊎ (t ≡ type.Void)
unfolding head_result
head_result_is scope n h t low e =
    let a = after_right (type_named scope h.base h.stars) (result_type h.place) t e in
    result_type_is n h.place a.value t (type_named_some scope n h.base h.stars a.value low a.right) a.made

pub heading_sound : (program : Program) (scope : Scope) (h : Head) (x : Heading) → Stands program scope → ((i : ℕ) (p : Param) → slice_get x.params i ≡ Some p → HasNumber program p.ty) → heading scope h ≡ Right x → IsSoundHeading program x
heading_sound program scope h x st numbered e =
    let a = heading_as scope h x e in
    let candidates = map (candidate scope) h.params in
    let siblings = map sibling_param x.params in
    let low = tags_numbered program scope st in
    let sees = sees_params scope candidates h.params x.params a.params in
    record {
      result = head_result_is scope (length program.structs) h x.result low a.result;
      annotation = annotation_sound program scope (result_siblings scope h) siblings h.place x.result h.ann x.ann st (sees_bare candidates siblings (Some h.name) sees) a.noted;
      params = λ i p n.
          let r = pair_of_right (IsParamOf scope candidates) h.params x.params i p a.params n in
          record {
            sort = (declarator_good scope (length program.structs) r.0 low).parameter p.ty (r.1).related.type;
            annotation = annotation_sound program scope candidates siblings (out-Decl r.0).place p.ty (out-Decl r.0).ann p.ann st sees (r.1).related.noted;
            in_table = numbered i p n;
          };
    }

-- ---- the same head, as uses of the function see it

-- a parameter and its type
abbrev IsTypeOf : Declarator → Ty → Type 0
IsTypeOf d t = d.parameter ≡ Right t

types_are : (ds : List Declarator) (ts : List Ty) → parameter_list [] ds ≡ Right ts → Pairwise IsTypeOf ds ts
unfolding parameter_list
types_are ds ts e = gathered parameter_list parameter_among IsTypeOf (λ b. refl) (λ b d rest. refl) (λ b d t f.
    let c = demand_right d.place Limit (not (length b == 8)) d.parameter t f in
    c.right) [] ds ts e

types_same : (scope other : Scope) (siblings : List Candidate) (ds : List Decl) (ts : List Ty) (xs : List Param) → scope.tags ≡ other.tags → Pairwise IsTypeOf (map (declarator scope) ds) ts → Pairwise (IsParamOf other siblings) ds xs → ts ≡ map (λ (p : Param). p.ty) xs
types_same scope other siblings [] [] [] tags f g = refl
types_same scope other siblings [] [] (x ∷ xs) tags f g = absurd g
types_same scope other siblings [] (t ∷ ts) xs tags f g = absurd f
types_same scope other siblings (d ∷ ds) [] xs tags f g = absurd f
types_same scope other siblings (d ∷ ds) (t ∷ ts) [] tags f g = absurd g
types_same scope other siblings (d ∷ ds) (t ∷ ts) (x ∷ xs) tags f g =
    let one : t ≡ x.ty = same_right t x.ty (sym f.0 ∙ ap (λ (y : Declarator). y.parameter) (same_declarator scope other d tags) ∙ (g.0).type) in
    let rest : ts ≡ map (λ (p : Param). p.ty) xs = types_same scope other siblings ds ts xs tags f.1 g.1 in
    λ i. one i ∷ rest i

record IsSignatureRight (scope : Scope) (n : ℕ) (h : Head) (s : Signature) : Type 0 where
  result : head_result scope h ≡ Right s.result
  params : parameter_list [] (map (declarator scope) h.params) ≡ Right s.params
  number : s.number ≡ n

signature_as : (scope : Scope) (n : ℕ) (h : Head) (s : Signature) → signature scope n h ≡ Right s → IsSignatureRight scope n h s
unfolding signature
signature_as scope n h s e =
    let b = both_right (head_result scope h) (parameter_list [] (map (declarator scope) h.params)) (signature_by n) s e in
    let same : record { number = n; result = b.left; params = b.right } ≡ s = same_right (record { number = n; result = b.left; params = b.right }) s b.made in
    subst (IsSignatureRight scope n h) same (record { result = b.first; params = b.second; number = refl })

-- a head has the types of its signature, which comes from a place with the same structs' names
pub signature_of_heading : (scope other : Scope) (n : ℕ) (h : Head) (s : Signature) (x : Heading) → scope.tags ≡ other.tags → signature scope n h ≡ Right s → heading other h ≡ Right x → IsSignatureOf n s x
signature_of_heading scope other n h s x tags e f =
    let a = signature_as scope n h s e in
    let b = heading_as other h x f in
    record {
      number = a.number;
      result_is = same_right s.result x.result (sym a.result ∙ same_result scope other h tags ∙ b.result);
      params_are = types_same scope other (map (candidate other) h.params) h.params s.params x.params tags (types_are (map (declarator scope) h.params) s.params a.params) b.params;
    }

-- a pointer to the function has a type of objects
pub signature_formed : (scope : Scope) (m n : ℕ) (h : Head) (s : Signature) → AreNumbered scope m → signature scope n h ≡ Right s → sort_of m (type.Fun (s.result ∷ s.params)) ≡ Scalar
signature_formed scope m n h s low e =
    let a = signature_as scope n h s e in
    handle_sort m s.result s.params (is_result m s.result (head_result_is scope m h s.result low a.result)) (parameter_list_is scope m h.params s.params low a.params)

-- the parameters of a head are scalars, whatever stands in the type table
pub heading_params : (scope : Scope) (n : ℕ) (h : Head) (x : Heading) → AreNumbered scope n → heading scope h ≡ Right x → (i : ℕ) (p : Param) → slice_get x.params i ≡ Some p → sort_of n p.ty ≡ Scalar
heading_params scope n h x low e i p at =
    let a = heading_as scope h x e in
    let r = pair_of_right (IsParamOf scope (map (candidate scope) h.params)) h.params x.params i p a.params at in
    (declarator_good scope n r.0 low).parameter p.ty (r.1).related.type
