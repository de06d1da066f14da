-- Initialisers, as their parts.
use Rattle.std.proofs.Common.{ℕ, ◌≡◌, ◌<◌, ◌+◌, List, [], ◌∷◌, ◌++◌, map, drop, length, get_or, refl, ap, suc, append_assoc, Option, Result, Ok, Err}
use Rattle.std.specs.Prelude.{◌&&◌, ◌||◌, not, is_none, is_some, nat_lt}
use Rattle.std.specs.List.{list_any}
use Rattle.std.proofs.Math.Path.{sym, ◌∙◌}
use Rattle.std.proofs.lemmas.List.{at_drop_more}
use Rattle.mdr_core.specs.declared.place.Place.{Place}
use Rattle.mdr_syntax.specs.declared.tree.Elem.{Elem, out-Elem}
use Rattle.mdr_syntax.specs.declared.tree.FieldName.{FieldName}
use Rattle.mdr_syntax.specs.declared.tree.Init.TheOpen.{Init-F}
use Rattle.mdr_syntax.specs.declared.tree.Init.TheFolds.{fold-roll-Init, fold_out-Elem}
use Rattle.mdr_syntax.specs.declared.tree.Init.TheVariants as written
use Rattle.mdr_syntax.specs.declared.tree.Init.TheVariants.{rolls-List}
use Rattle.mdr_faults.specs.declared.fault.Fault.{Fault}
use Rattle.mdr_faults.specs.declared.fault.FaultKind.TheVariants.{Mismatch}
use Rattle.mdr_check.specs.declared.initialiser.First.{First}
use Rattle.mdr_check.specs.declared.initialiser.Placed.{Placed}
use Rattle.mdr_faults.specs.declared.scope.Member.{Member}
use Rattle.mdr_faults.specs.declared.scope.Object.{Object}
use Rattle.mdr_faults.specs.declared.scope.Scope.{Scope}
use Rattle.mdr_faults.specs.Faults.{Checked, Right, Wrong, both, after, demand, told, first, followed, extended, next}
use Rattle.mdr_check.specs.Initialisers.{Part, appended, initial, part, initial_layer, part_layer, list_first, field_of, part_field, are_plain, are_named, is_same_field, are_once, suits_array, suits_struct, has_room, left_of, element_of, array_first, struct_first, elements_first, placed_by, placed_part, placed_parts, members_first, member_first, part_for}
use Rattle.mdr_faults.proofs.Order.{lesser_assoc}
use Rattle.mdr_faults.proofs.Gathered.{one_more}

pub part_is : (scope : Scope) (own : ℕ) (p : Place) (e : Elem) → part scope own p e ≡ record { field = (out-Elem e).field; init = initial scope own p (out-Elem e).init }
part_is scope own p e = fold_out-Elem (Object → Checked (List First)) Part (initial_layer scope own p) part_layer e

pub list_is : (scope : Scope) (own : ℕ) (p at : Place) (es : List Elem) (o : Object) → list_first scope p (map (part scope own p) es) o ≡ initial scope own p (written.List at es) o
list_is scope own p at es o = sym (ap (λ (f : Object → Checked (List First)). f o) (ap (initial scope own p) (sym (rolls-List at es)) ∙ fold-roll-Init (Object → Checked (List First)) Part (initial_layer scope own p) part_layer (Init-F.List at es)))

-- ---- tests of elements

field_is : (scope : Scope) (own : ℕ) (p : Place) (e : Elem) → (part scope own p e).field ≡ (out-Elem e).field
field_is scope own p e = ap (λ (x : Part). x.field) (part_is scope own p e)

plain_is : (scope : Scope) (own : ℕ) (p : Place) (es : List Elem) → are_plain part_field (map (part scope own p) es) ≡ are_plain field_of es
plain_is scope own p [] = refl
plain_is scope own p (e ∷ es) = λ i. is_none (field_is scope own p e i) && plain_is scope own p es i

named_is : (scope : Scope) (own : ℕ) (p : Place) (es : List Elem) → are_named part_field (map (part scope own p) es) ≡ are_named field_of es
named_is scope own p [] = refl
named_is scope own p (e ∷ es) = λ i. is_some (field_is scope own p e i) && named_is scope own p es i

again_is : (scope : Scope) (own : ℕ) (p : Place) (f : Option FieldName) (es : List Elem) → list_any (λ x. is_same_field (part_field x) f) (map (part scope own p) es) ≡ list_any (λ x. is_same_field (field_of x) f) es
again_is scope own p f [] = refl
again_is scope own p f (e ∷ es) = λ i. is_same_field (field_is scope own p e i) f || again_is scope own p f es i

once_is : (scope : Scope) (own : ℕ) (p : Place) (es : List Elem) → are_once part_field (map (part scope own p) es) ≡ are_once field_of es
unfolding are_once
once_is scope own p [] = refl
once_is scope own p (e ∷ es) = λ i. not ((ap (λ f. list_any (λ x. is_same_field (part_field x) f) (map (part scope own p) es)) (field_is scope own p e) ∙ again_is scope own p (field_of e) es) i) && once_is scope own p es i

counted : {A B : Type 0} (f : A → B) (xs : List A) → length (map f xs) ≡ length xs
counted f [] = refl
counted f (x ∷ xs) = ap suc (counted f xs)

pub suits_array_is : (scope : Scope) (own : ℕ) (p : Place) (o : Object) (es : List Elem) → suits_array field_of o es ≡ suits_array part_field o (map (part scope own p) es)
suits_array_is scope own p o es = sym (λ i. plain_is scope own p es i && has_room o (counted (part scope own p) es i))

pub suits_struct_is : (scope : Scope) (own : ℕ) (p : Place) (ms : List Member) (es : List Elem) → suits_struct field_of ms es ≡ suits_struct part_field ms (map (part scope own p) es)
suits_struct_is scope own p ms es = sym (λ i. (plain_is scope own p es i || named_is scope own p es i) && once_is scope own p es i && not (nat_lt (length ms) (counted (part scope own p) es i)))

-- ---- values one behind the other

followed_both : {A : Type 0} (a : Result (List A) Fault) (c cs : Checked (List A)) → followed (followed a (told c)) (told cs) ≡ followed a (told (both c cs appended))
followed_both (Ok xs) (Right x) (Right ys) = ap Ok (append_assoc xs x ys)
followed_both (Ok xs) (Right x) (Wrong g) = refl
followed_both (Ok xs) (Wrong f) (Right ys) = refl
followed_both (Ok xs) (Wrong f) (Wrong g) = refl
followed_both (Err e) (Right x) (Right ys) = refl
followed_both (Err e) (Right x) (Wrong g) = refl
followed_both (Err e) (Wrong f) (Right ys) = refl
followed_both (Err e) (Wrong f) (Wrong g) = ap Err (lesser_assoc e (first f) (first g))

-- a loop over a form's parts each of which is a list, at one part
pub one_list : {X A : Type 0} (F : List X → Checked (List A)) (c cs : Checked (List A)) (xs : List X) (i : ℕ) (x : X) (a a1 w : Result (List A) Fault) → i < length xs → x ≡ get_or xs i x → F (x ∷ drop (i + 1) xs) ≡ both c cs appended → a1 ≡ followed a (told c) → followed a (told (F (drop i xs))) ≡ w → followed a1 (told cs) ≡ w
one_list {X = X} {A = A} F c cs xs i x a a1 w inside is step grown so_far =
    let moved : F (drop i xs) ≡ both c cs appended = at_drop_more F xs i x inside ∙ ap (λ (y : X). F (y ∷ drop (i + 1) xs)) (sym is) ∙ step in
    ap (λ r. followed r (told cs)) grown ∙ followed_both a c cs ∙ sym (ap (λ d. followed a (told d)) moved) ∙ so_far

pub one_element : (scope : Scope) (own : ℕ) (p : Place) (o : Object) (xs : List Elem) (i : ℕ) (x : Elem) (a a1 w : Result (List First) Fault) → i < length xs → x ≡ get_or xs i x → a1 ≡ followed a (told (initial scope own p (out-Elem x).init o)) → followed a (told (elements_first o (map (part scope own p) (drop i xs)))) ≡ w → followed a1 (told (elements_first o (map (part scope own p) (drop (i + 1) xs)))) ≡ w
unfolding elements_first
one_element scope own p o xs i x a a1 w inside is grown so_far =
    one_list (λ ys. elements_first o (map (part scope own p) ys)) (initial scope own p (out-Elem x).init o) (elements_first o (map (part scope own p) (drop (i + 1) xs))) xs i x a a1 w inside is
    (ap (λ (e : Part). both (e.init o) (elements_first o (map (part scope own p) (drop (i + 1) xs))) appended) (part_is scope own p x))
    grown so_far

pub one_part : (scope : Scope) (own : ℕ) (p : Place) (ms : List Member) (xs : List Elem) (i : ℕ) (x : Elem) (a a1 w : Result (List Placed) Fault) → i < length xs → x ≡ get_or xs i x → a1 ≡ extended a (told (placed_by p ms i (field_of x) (initial scope own p (out-Elem x).init))) → followed a (told (placed_parts p ms i (map (part scope own p) (drop i xs)))) ≡ w → followed a1 (told (placed_parts p ms (i + 1) (map (part scope own p) (drop (i + 1) xs)))) ≡ w
unfolding placed_parts placed_part
one_part scope own p ms xs i x a a1 w inside is grown so_far =
    one_more (λ ys. placed_parts p ms i (map (part scope own p) ys)) (placed_by p ms i (field_of x) (initial scope own p (out-Elem x).init)) (placed_parts p ms (i + 1) (map (part scope own p) (drop (i + 1) xs))) xs i x a a1 w inside is
    (ap (λ (e : Part). next (placed_by p ms i e.field e.init) (placed_parts p ms (i + 1) (map (part scope own p) (drop (i + 1) xs)))) (part_is scope own p x))
    grown so_far

pub one_member : (parts : List Placed) (xs : List Member) (i : ℕ) (x : Member) (a a1 w : Result (List First) Fault) → i < length xs → x ≡ get_or xs i x → a1 ≡ followed a (told (member_first x (part_for parts i))) → followed a (told (members_first parts i (drop i xs))) ≡ w → followed a1 (told (members_first parts (i + 1) (drop (i + 1) xs))) ≡ w
unfolding members_first
one_member parts xs i x a a1 w inside is grown so_far =
    one_list (members_first parts i) (member_first x (part_for parts i)) (members_first parts (i + 1) (drop (i + 1) xs)) xs i x a a1 w inside is refl grown so_far

-- ---- whole lists

pub array_is : (scope : Scope) (own : ℕ) (p : Place) (o : Object) (es : List Elem) → demand p Mismatch (suits_array field_of o es) (after (elements_first (element_of o) (map (part scope own p) es)) (λ xs. Right (xs ++ left_of o (length es) ∷ []))) ≡ array_first p o (map (part scope own p) es)
unfolding array_first
array_is scope own p o es = λ i. demand p Mismatch (suits_array_is scope own p o es i) (after (elements_first (element_of o) (map (part scope own p) es)) (λ xs. Right (xs ++ left_of o (sym (counted (part scope own p) es) i) ∷ [])))

pub struct_is : (scope : Scope) (own : ℕ) (p : Place) (ms : List Member) (es : List Elem) → demand p Mismatch (suits_struct field_of ms es) (after (placed_parts p ms 0 (map (part scope own p) es)) (λ parts. members_first parts 0 ms)) ≡ struct_first p ms (map (part scope own p) es)
unfolding struct_first
struct_is scope own p ms es = λ i. demand p Mismatch (suits_struct_is scope own p ms es i) (after (placed_parts p ms 0 (map (part scope own p) es)) (λ parts. members_first parts 0 ms))
