-- What is known of a struct has as many members as the struct has fields (C99 6.7.2.1).
use Rattle.std.proofs.Common.{◌≡◌, suc, List, [], ◌∷◌, ◌++◌, length, map, refl, ap, ◌∙◌}
use Rattle.mdr_core.specs.declared.place.Place.{Place}
use Rattle.mdr_core.specs.declared.program.Field.{Field}
use Rattle.mdr_syntax.specs.declared.tree.Decl.{Decl}
use Rattle.mdr_faults.specs.declared.scope.Candidate.{Candidate}
use Rattle.mdr_faults.specs.declared.scope.Scope.{Scope}
use Rattle.mdr_faults.specs.Faults.{Right}
use Rattle.mdr_headings.specs.Annotations.{candidate}
use Rattle.mdr_headings.specs.Structs.{field_among, fields_behind, member, struct_entry, struct_fields, struct_rule, struct_size}
use Rattle.mdr_sound.proofs.Rights.{not_right, same_right, after_right, both_right}

counted : {A B : Type 0} (f : A → B) (xs : List A) → length (map f xs) ≡ length xs
counted f [] = refl
counted f (x ∷ xs) = ap suc (counted f xs)

fields_counted : (scope : Scope) (limit : Place) (siblings : List Candidate) (before ds : List Decl) (xs : List Field) → fields_behind scope limit siblings before ds ≡ Right xs → length ds ≡ length xs
unfolding fields_behind
fields_counted scope limit siblings before [] xs e = ap length (same_right [] xs e)
fields_counted scope limit siblings before (d ∷ ds) xs e =
    let parts = both_right (field_among scope limit siblings before d) (fields_behind scope limit siblings (before ++ d ∷ []) ds) (λ y ys. Right (y ∷ ys)) xs e in
    ap suc (fields_counted scope limit siblings (before ++ d ∷ []) ds parts.right parts.second) ∙ ap length (same_right (parts.left ∷ parts.right) xs parts.made)

-- the rule of structs takes all fields as they are
rule_keeps : (scope : Scope) (p : Place) (xs ys : List Field) → struct_rule scope p xs ≡ Right ys → xs ≡ ys
rule_keeps scope p [] ys e = not_right _ ys e
rule_keeps scope p (x ∷ xs) ys e = let size = after_right (struct_size scope p (x ∷ xs)) (λ n. Right (x ∷ xs)) ys e in same_right (x ∷ xs) ys size.made

pub members_counted : (scope : Scope) (p : Place) (ds : List Decl) (xs : List Field) → struct_fields scope p ds ≡ Right xs → length (struct_entry scope p ds).members ≡ length xs
unfolding struct_fields struct_entry
members_counted scope p ds xs e =
    let all = after_right (fields_behind scope p (map (candidate scope) ds) [] ds) (struct_rule scope p) xs e in
    counted (member scope p) ds ∙ fields_counted scope p (map (candidate scope) ds) [] ds all.value all.right ∙ ap length (rule_keeps scope p all.value xs all.made)
