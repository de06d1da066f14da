-- Structs that a file declares are sound.
use Rattle.std.proofs.Common.{◌≡◌, ℕ, suc, ◌+◌, ◌<◌, ◌≤◌, Bool, true, false, not, nat_lt, List, [], ◌∷◌, ◌++◌, map, length, Some, is_some, slice_get, refl, sym, ap, subst, ◌∙◌, arith}
use Rattle.std.specs.Prelude.{◌&&◌, ◌==◌}
use Rattle.std.specs.List.{list_any}
use Rattle.std.proofs.lemmas.List.{length-append}
use Rattle.mdr_core.specs.declared.place.Place.{Place}
use Rattle.mdr_core.specs.declared.program.Field.{Field}
use Rattle.mdr_core.specs.declared.program.Program.{Program}
use Rattle.mdr_core.specs.declared.types.Ann.{Ann}
use Rattle.mdr_core.specs.Sound.{Sibling, sibling_field, IsSoundField, IsSoundStruct}
use Rattle.mdr_core.specs.Types.{HasNumber}
use Rattle.mdr_syntax.specs.declared.tree.Decl.{Decl, out-Decl}
use Rattle.mdr_faults.specs.declared.fault.FaultKind.TheVariants.{Redefined, Limit}
use Rattle.mdr_faults.specs.declared.scope.Candidate.{Candidate}
use Rattle.mdr_faults.specs.declared.scope.Object.{Object}
use Rattle.mdr_faults.specs.declared.scope.Scope.{Scope}
use Rattle.mdr_faults.specs.Declarations.{declarator, is_same_name, object_declared}
use Rattle.mdr_faults.specs.Faults.{Right, after}
use Rattle.mdr_headings.specs.Annotations.{annotated, candidate, is_integer}
use Rattle.mdr_headings.specs.Within.{beside, within}
use Rattle.mdr_sound.proofs.Scoping.{beside_right}
use Rattle.mdr_headings.specs.Structs.{field_of, annotated_field, field_among, fields_behind, cells_of_fields, struct_size, struct_rule, struct_fields}
use Rattle.mdr_sound.proofs.Rights.{after_right, both_right, same_right, demand_right, refused_right, not_right}
use Rattle.mdr_sound.proofs.Alike.{left_of, right_of}
use Rattle.mdr_sound.specs.Declared.{SeesSiblings}
use Rattle.mdr_sound.specs.Standing.{Stands}
use Rattle.mdr_sound.proofs.Reading.{get_map, get_mapped}
use Rattle.mdr_sound.proofs.Objects.{declared_as, object_sound}
use Rattle.mdr_sound.proofs.Annotating.{annotation_sound, integer}
use Rattle.mdr_sound.proofs.Gathering.{Pairwise, pair_of_left, pair_of_right, gathered}
use Rattle.mdr_sound.proofs.Candidates.{candidate_integer}

-- ---- fields, as they are declared

pub record IsFieldOf (scope : Scope) (limit : Place) (siblings : List Candidate) (d : Decl) (x : Field) : Type 0 where
  pub object : Object
  pub note : Ann
  pub declared : object_declared scope limit d ≡ Right object
  pub noted : annotated scope siblings (out-Decl d).place object.ty (out-Decl d).ann ≡ Right note
  pub made : field_of (out-Decl d).name object note ≡ x

among_is : (scope : Scope) (limit : Place) (siblings : List Candidate) (before : List Decl) (d : Decl) (x : Field) → field_among scope limit siblings before d ≡ Right x → (not (length before == 64) ≡ true) × IsFieldOf scope limit siblings d x
unfolding field_among annotated_field
among_is scope limit siblings before d x e =
    let p = (out-Decl d).place in
    let a = demand_right p Redefined (not (list_any (λ b. is_same_name (out-Decl b).name (out-Decl d).name) before)) _ x e in
    let rule = after (object_declared scope limit d) (annotated_field scope siblings d) in
    let b = demand_right p Limit (not (length before == 64)) (beside (within scope [] d) rule) x a.right in
    let w = beside_right (within scope [] d) rule x b.right in
    let c = after_right (object_declared scope limit d) (annotated_field scope siblings d) x w in
    let n = after_right (annotated scope siblings p c.value.ty (out-Decl d).ann) (λ a. Right (field_of (out-Decl d).name c.value a)) x c.made in
    (b.holds, record { object = c.value; note = n.value; declared = c.right; noted = n.right; made = same_right (field_of (out-Decl d).name c.value n.value) x n.made })

fields_are : (scope : Scope) (limit : Place) (siblings : List Candidate) (before ds : List Decl) (xs : List Field) → fields_behind scope limit siblings before ds ≡ Right xs → Pairwise (IsFieldOf scope limit siblings) ds xs
unfolding fields_behind
fields_are scope limit siblings before ds xs e =
    gathered (fields_behind scope limit siblings) (field_among scope limit siblings) (IsFieldOf scope limit siblings) (λ b. refl) (λ b d rest. refl) (λ b d x f. (among_is scope limit siblings b d x f).1) before ds xs e

not_yet : (n : ℕ) → n ≤ 64 → not (n == 64) ≡ true → n < 64
not_yet n h e = by (n == 64) refl e
  where
    by : (b : Bool) → (n == 64) ≡ b → not b ≡ true → n < 64
    by true f e = cc
    by false f e = grind (arith, f)

fields_few : (scope : Scope) (limit : Place) (siblings : List Candidate) (before ds : List Decl) (xs : List Field) → length before ≤ 64 → fields_behind scope limit siblings before ds ≡ Right xs → length before + length xs ≤ 64
unfolding fields_behind
fields_few scope limit siblings before [] xs h e = let none : 0 ≡ length xs = ap length (same_right [] xs e) in omega (arith, h, none)
fields_few scope limit siblings before (d ∷ ds) xs h e =
    let b = both_right (field_among scope limit siblings before d) (fields_behind scope limit siblings (before ++ d ∷ []) ds) (λ x xs. Right (x ∷ xs)) xs e in
    let below = not_yet (length before) h (among_is scope limit siblings before d b.left b.first).0 in
    let more = length-append before (d ∷ []) in
    let rest = fields_few scope limit siblings (before ++ d ∷ []) ds b.right (omega (arith, below, more)) b.second in
    let all : suc (length b.right) ≡ length xs = ap length (same_right (b.left ∷ b.right) xs b.made) in
    omega (arith, rest, more, all)

-- ---- a struct, as it is declared

pub record IsStructOf (scope : Scope) (p : Place) (ds : List Decl) (xs : List Field) : Type 0 where
  pub some : 1 ≤ length xs
  pub few : length xs ≤ 64
  pub small : cells_of_fields scope p xs ≤ 65536
  pub fields : Pairwise (IsFieldOf scope p (map (candidate scope) ds)) ds xs

rule_is : (scope : Scope) (p : Place) (ys xs : List Field) → struct_rule scope p ys ≡ Right xs → (ys ≡ xs) × ((1 ≤ length ys) × (nat_lt 65536 (cells_of_fields scope p ys) ≡ false))
rule_is scope p [] xs e = not_right _ xs e
rule_is scope p (y ∷ ys) xs e =
    let a = after_right (struct_size scope p (y ∷ ys)) (λ n. Right (y ∷ ys)) xs e in
    let r = refused_right (nat_lt 65536 (cells_of_fields scope p (y ∷ ys))) (Right (cells_of_fields scope p (y ∷ ys))) p Limit a.value a.right in
    (same_right (y ∷ ys) xs a.made, (omega arith, r.fails))

no_more : (n : ℕ) → nat_lt 65536 n ≡ false → n ≤ 65536
no_more n e = grind (arith, e)

pub struct_as : (scope : Scope) (p : Place) (ds : List Decl) (xs : List Field) → struct_fields scope p ds ≡ Right xs → IsStructOf scope p ds xs
unfolding struct_fields
struct_as scope p ds xs e =
    let a = after_right (fields_behind scope p (map (candidate scope) ds) [] ds) (struct_rule scope p) xs e in
    let r = rule_is scope p a.value xs a.made in
    let few = fields_few scope p (map (candidate scope) ds) [] ds a.value (omega arith) a.right in
    subst (IsStructOf scope p ds) r.0 (record {
      some = (r.1).0;
      few = omega (arith, few);
      small = no_more (cells_of_fields scope p a.value) (r.1).1;
      fields = fields_are scope p (map (candidate scope) ds) [] ds a.value a.right;
    })

-- ---- what annotations see of the fields

-- what a field's declaration says of it
pub record IsMade (scope : Scope) (d : Decl) (x : Field) : Type 0 where
  pub whole : (declarator scope d).whole ≡ Right x.ty
  pub array : is_some (out-Decl d).size ≡ x.array

pub field_made : (scope : Scope) (limit : Place) (siblings : List Candidate) (d : Decl) (x : Field) → IsFieldOf scope limit siblings d x → IsMade scope d x
field_made scope limit siblings d x h =
    let a = declared_as scope limit d h.object h.declared in
    record { whole = a.whole ∙ ap (λ (y : Field). Right y.ty) h.made; array = a.array ∙ ap (λ (y : Field). y.array) h.made }

pub not_true : (b : Bool) → not b ≡ true → b ≡ false
not_true true e = cc
not_true false e = refl

pub sees_fields : (scope : Scope) (limit : Place) (siblings : List Candidate) (ds : List Decl) (xs : List Field) → Pairwise (IsFieldOf scope limit siblings) ds xs → SeesSiblings (map (candidate scope) ds) (map sibling_field xs)
sees_fields scope limit siblings ds xs fields = record {
  integers = λ i c n h.
      let m = get_mapped (candidate scope) ds i c n in
      let p = pair_of_left (IsFieldOf scope limit siblings) ds xs i m.item fields m.names in
      let x = p.0 in
      let made = field_made scope limit siblings m.item x (p.1).related in
      let size = is_some (out-Decl m.item).size in
      let both : (is_integer x.ty && not size) ≡ true = sym (candidate_integer scope m.item x.ty made.whole) ∙ ap (λ (y : Candidate). y.is_integer) m.made ∙ h in
      let k = integer x.ty (left_of (is_integer x.ty) (not size) both) in
      record {
        sibling = sibling_field x;
        names = get_map sibling_field xs i x (p.1).right;
        single = sym made.array ∙ not_true size (right_of (is_integer x.ty) (not size) both);
        kind = k.0;
        integer = k.1;
      };
}

-- ---- a struct is sound

field_sound : (program : Program) (scope : Scope) (limit : Place) (candidates : List Candidate) (siblings : List Sibling) (s : ℕ) (d : Decl) (x : Field) → Stands program scope → length scope.structs ≡ s → SeesSiblings candidates siblings → HasNumber program x.ty → IsFieldOf scope limit candidates d x → IsSoundField program s siblings x
field_sound program scope limit candidates siblings s d x st which sees numbered h =
    let o = object_sound program scope limit d h.object st h.declared in
    let sound : HasNumber program h.object.ty → IsSoundField program s siblings (field_of (out-Decl d).name h.object h.note) =
    λ n. record {
      sort = o.sort;
      lower = λ t e. subst (λ (k : ℕ). t < k) which (o.lower t e);
      count = o.count;
      annotation = annotation_sound program scope candidates siblings (out-Decl d).place h.object.ty (out-Decl d).ann h.note st sees h.noted;
      in_table = n;
    }
    in
    subst (IsSoundField program s siblings) h.made (sound (subst (λ (y : Field). HasNumber program y.ty) (sym h.made) numbered))

pub struct_sound : (program : Program) (scope : Scope) (p : Place) (name : List ℕ) (ds : List Decl) (xs : List Field) → Stands program scope → ((f : ℕ) (x : Field) → slice_get xs f ≡ Some x → HasNumber program x.ty) → struct_fields scope p ds ≡ Right xs → IsSoundStruct program (length scope.structs) (record { name = name; fields = xs })
struct_sound program scope p name ds xs st numbered e =
    let a = struct_as scope p ds xs e in
    let candidates = map (candidate scope) ds in
    record {
      some = a.some;
      fields = λ f x n.
          let r = pair_of_right (IsFieldOf scope p candidates) ds xs f x a.fields n in
          field_sound program scope p candidates (map sibling_field xs) (length scope.structs) r.0 x st refl (sees_fields scope p candidates ds xs a.fields) (numbered f x n) (r.1).related;
    }
