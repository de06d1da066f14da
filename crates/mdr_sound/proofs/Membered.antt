-- The first values of structs, member by member (C99 6.7.8, paragraphs 17 to 21).
use Rattle.std.proofs.Common.{◌≡◌, ℕ, suc, ◌+◌, ◌<◌, Bool, true, false, cond, ◌==◌, List, [], ◌∷◌, ◌++◌, length, find, Option, Some, None, Ok, slice_get, refl, sym, ap, ◌∙◌, subst, arith}
use Rattle.std.proofs.lemmas.List.{map-append}
use Rattle.mdr_core.specs.declared.place.Place.{Place}
use Rattle.mdr_core.specs.declared.program.Field.{Field}
use Rattle.mdr_core.specs.declared.program.Program.{Program}
use Rattle.mdr_core.specs.declared.program.StructDef.{StructDef}
use Rattle.mdr_core.specs.Layout.{Leaf, Alone, Within, leaves, leaves_below, field_leaves, fields_of, repeated, struct_cells, struct_of}
use Rattle.mdr_check.specs.declared.initialiser.First.{First}
use Rattle.mdr_check.specs.declared.initialiser.First.TheVariants as first
use Rattle.mdr_check.specs.declared.initialiser.Placed.{Placed}
use Rattle.mdr_check.specs.declared.variable.Variable.{Variable}
use Rattle.mdr_check.specs.Initialisers.{Part, appended, part_number, placed, placed_at, placed_part, placed_parts, member_first, part_for, members_first}
use Rattle.mdr_faults.specs.declared.scope.Member.{Member}
use Rattle.mdr_faults.specs.declared.scope.Object.{Object}
use Rattle.mdr_faults.specs.Faults.{Right, again, after}
use Rattle.mdr_program.specs.Values.{object_cells, first_values}
use Rattle.mdr_sound.proofs.Rights.{not_right, same_right, after_right, both_right, again_right}
use Rattle.mdr_sound.proofs.Filled.{Fills, Done, fills_append, fills_as, fills_values, types_of}
use Rattle.mdr_sound.proofs.Fielded.{types_of_field}
use Rattle.mdr_sound.proofs.Initialised.{IsInitialised, IsSingular, IsGood, AreGood, values_append, zeros_initialise}

-- a field that is this object
pub record IsField (structs : List StructDef) (s : ℕ) (xs : List Field) (f : ℕ) (o : Object) : Type 0 where
  pub field : Field
  pub names : slice_get xs f ≡ Some field
  pub ty : field.ty ≡ o.ty
  pub count : field.count ≡ o.count
  pub lower : (t : ℕ) → struct_of field.ty ≡ Some t → t < s

-- these members are these fields of struct s, one by one
pub record AreFields (structs : List StructDef) (s : ℕ) (ms : List Member) (xs : List Field) : Type 0 where
  pub many : length ms ≡ length xs
  pub each : (f : ℕ) (m : Member) (o : Object) → slice_get ms f ≡ Some m → m.means ≡ Ok o → IsField structs s xs f o

-- each member that is no array has one element
pub record AreSingular (ms : List Member) : Type 0 where
  pub each : (f : ℕ) (m : Member) (o : Object) → slice_get ms f ≡ Some m → m.means ≡ Ok o → IsSingular o

-- ---- what the elements of a list give

-- the values of a member
pub record IsPlaced (program : Program) (vs : List Variable) (own : ℕ) (ms : List Member) (i : ℕ) (xs : List First) : Type 0 where
  pub member : Member
  pub object : Object
  pub names : slice_get ms i ≡ Some member
  pub means : member.means ≡ Ok object
  pub values : IsInitialised program vs own object xs

abbrev ArePlaced : Program → List Variable → ℕ → List Member → List Placed → Type 0
ArePlaced program vs own ms [] = Unit {0}
ArePlaced program vs own ms (x ∷ xs) = IsPlaced program vs own ms x.member x.first × ArePlaced program vs own ms xs

placed_at_known : (program : Program) (vs : List Variable) (own : ℕ) (p : Place) (ms : List Member) (i : ℕ) (o : Option Member) (e : Part) (x : Placed) → AreSingular ms → IsGood program vs own e → slice_get ms i ≡ o → placed_at p i e.init o ≡ Right x → IsPlaced program vs own ms x.member x.first
placed_at_known program vs own p ms i None e x singular good q h = not_right _ x h
placed_at_known program vs own p ms i (Some m) e x singular good q h =
    let whole = after_right (after (again m.means) e.init) (λ xs. Right (record { member = i; first = xs })) x h in
    let parts = after_right (again m.means) e.init whole.value whole.right in
    let means = again_right m.means parts.value parts.right in
    subst (λ (y : Placed). IsPlaced program vs own ms y.member y.first) (same_right (record { member = i; first = whole.value }) x whole.made)
    (record { member = m; object = parts.value; names = q; means = means; values = good.by parts.value whole.value (singular.each i m parts.value q means) parts.made })

placed_known : (program : Program) (vs : List Variable) (own : ℕ) (p : Place) (ms : List Member) (j : ℕ) (e : Part) (x : Placed) → AreSingular ms → IsGood program vs own e → placed_part p ms j e ≡ Right x → IsPlaced program vs own ms x.member x.first
unfolding placed_part
placed_known program vs own p ms j e x singular good h =
    let which = after_right (part_number p ms j e.field) (λ i. placed_at p i e.init (slice_get ms i)) x h in
    placed_at_known program vs own p ms which.value (slice_get ms which.value) e x singular good refl which.made

all_placed : (program : Program) (vs : List Variable) (own : ℕ) (p : Place) (ms : List Member) (j : ℕ) (es : List Part) (xs : List Placed) → AreSingular ms → AreGood program vs own es → placed_parts p ms j es ≡ Right xs → ArePlaced program vs own ms xs
unfolding placed_parts
all_placed program vs own p ms j [] xs singular good h = subst (ArePlaced program vs own ms) (same_right [] xs h) tt
all_placed program vs own p ms j (e ∷ es) xs singular good h =
    let parts = both_right (placed_part p ms j e) (placed_parts p ms (j + 1) es) (λ y ys. Right (y ∷ ys)) xs h in
    subst (ArePlaced program vs own ms) (same_right (parts.left ∷ parts.right) xs parts.made)
    (placed_known program vs own p ms j e parts.left singular good.0 parts.first, all_placed program vs own p ms (j + 1) es parts.right singular good.1 parts.second)

-- ---- what a member has

found_by : (program : Program) (vs : List Variable) (own : ℕ) (ms : List Member) (i : ℕ) (x part : Placed) (xs : List Placed) (b : Bool) → (x.member == i) ≡ b → IsPlaced program vs own ms x.member x.first
    → (find (λ (y : Placed). y.member == i) xs ≡ Some part → IsPlaced program vs own ms i part.first) → cond b (Some x) (find (λ (y : Placed). y.member == i) xs) ≡ Some part → IsPlaced program vs own ms i part.first
found_by program vs own ms i x part xs true q first rest h =
    let same : x ≡ part = cc in
    let number : x.member ≡ i = grind arith in
    subst (λ (y : Placed). IsPlaced program vs own ms i y.first) same (subst (λ n. IsPlaced program vs own ms n x.first) number first)
found_by program vs own ms i x part xs false q first rest h = rest h

part_found : (program : Program) (vs : List Variable) (own : ℕ) (ms : List Member) (i : ℕ) (parts : List Placed) (part : Placed) → ArePlaced program vs own ms parts → part_for parts i ≡ Some part → IsPlaced program vs own ms i part.first
part_found program vs own ms i [] part placed h = absurd cc
part_found program vs own ms i (x ∷ xs) part placed h = found_by program vs own ms i x part xs (x.member == i) refl placed.0 (λ e. part_found program vs own ms i xs part placed.1 e) h

member_by : (program : Program) (vs : List Variable) (own : ℕ) (ms : List Member) (i : ℕ) (m : Member) (parts : List Placed) (o : Option Placed) (ys : List First) → ArePlaced program vs own ms parts → slice_get ms i ≡ Some m → part_for parts i ≡ o → member_first m o ≡ Right ys → IsPlaced program vs own ms i ys
member_by program vs own ms i m parts None ys placed q e h =
    let means = after_right (again m.means) (λ o. Right (first.Zeros o ∷ [])) ys h in
    subst (IsPlaced program vs own ms i) (same_right (first.Zeros means.value ∷ []) ys means.made)
    (record { member = m; object = means.value; names = q; means = again_right m.means means.value means.right; values = zeros_initialise program vs own means.value })
member_by program vs own ms i m parts (Some part) ys placed q e h = subst (IsPlaced program vs own ms i) (same_right part.first ys h) (part_found program vs own ms i parts part placed e)

-- ---- all members

-- the members from number i on, which are the fields from there on
behind : (structs : List StructDef) (s : ℕ) (m : Member) (ms : List Member) (x : Field) (xs : List Field) → AreFields structs s (m ∷ ms) (x ∷ xs) → AreFields structs s ms xs
behind structs s m ms x xs h = record {
  many = let all = h.many in omega arith;
  each = λ f n o names means. let k = h.each (suc f) n o names means in record { field = k.field; names = k.names; ty = k.ty; count = k.count; lower = k.lower };
}

-- the cells of the first field
first_field : (program : Program) (vs : List Variable) (own s i : ℕ) (m : Member) (ms : List Member) (x : Field) (xs : List Field) (o : Object) (ys : List First) → AreFields program.structs s (m ∷ ms) (x ∷ xs) → m.means ≡ Ok o → IsInitialised program vs own o ys
    → Fills program own (types_of (repeated x.count (leaves (leaves_below program.structs s) (Within s i) x.ty))) (first_values program.types program.structs vs ys)
first_field program vs own s i m ms x xs o ys h means p =
    let k = h.each 0 m o refl means in
    let same : k.field ≡ x = let names = k.names in cc in
    let ty : o.ty ≡ x.ty = sym k.ty ∙ ap (λ (y : Field). y.ty) same in
    let count : o.count ≡ x.count = sym k.count ∙ ap (λ (y : Field). y.count) same in
    let lower : (t : ℕ) → struct_of x.ty ≡ Some t → t < s = subst (λ (y : Field). (t : ℕ) → struct_of y.ty ≡ Some t → t < s) same k.lower in
    let moved : types_of (object_cells program.structs o) ≡ types_of (repeated x.count (leaves (struct_cells program.structs) Alone x.ty)) = λ j. types_of (repeated (count j) (leaves (struct_cells program.structs) Alone (ty j))) in
    fills_as program own (types_of (object_cells program.structs o)) (types_of (repeated x.count (leaves (leaves_below program.structs s) (Within s i) x.ty))) (first_values program.types program.structs vs ys)
    (moved ∙ types_of_field program.structs s i x lower) p.by

-- where a member stands among all
record IsTail (all ms : List Member) (i : ℕ) : Type 0 where
  at : (f : ℕ) (m : Member) → slice_get ms f ≡ Some m → slice_get all (i + f) ≡ Some m

tail_behind : (all : List Member) (m : Member) (ms : List Member) (i : ℕ) → IsTail all (m ∷ ms) i → IsTail all ms (i + 1)
tail_behind all m ms i t = record { at = λ f n e. let next : i + 1 + f ≡ i + suc f = omega arith in ap (slice_get all) next ∙ t.at (suc f) n e }

members_fill : (program : Program) (vs : List Variable) (own s i : ℕ) (all : List Member) (parts : List Placed) (ms : List Member) (xs : List Field) (ys : List First) → ArePlaced program vs own all parts → IsTail all ms i → AreFields program.structs s ms xs → members_first parts i ms ≡ Right ys
    → Fills program own (types_of (field_leaves (leaves_below program.structs s) s i xs)) (first_values program.types program.structs vs ys)
unfolding members_first field_leaves first_values
members_fill program vs own s i all parts [] [] ys placed tail h e = fills_values program own [] [] (first_values program.types program.structs vs ys) (ap (first_values program.types program.structs vs) (same_right [] ys e)) Done
members_fill program vs own s i all parts [] (x ∷ xs) ys placed tail h e = let many = h.many in absurd (omega arith)
members_fill program vs own s i all parts (m ∷ ms) [] ys placed tail h e = let many = h.many in absurd (omega arith)
members_fill program vs own s i all parts (m ∷ ms) (x ∷ xs) ys placed tail h e =
    let both = both_right (member_first m (part_for parts i)) (members_first parts (i + 1) ms) appended ys e in
    let here : i + 0 ≡ i = omega arith in
    let names : slice_get all i ≡ Some m = subst (λ n. slice_get all n ≡ Some m) here (tail.at 0 m refl) in
    let one = member_by program vs own all i m parts (part_for parts i) both.left placed names refl both.first in
    let same : one.member ≡ m = let there = one.names in cc in
    let means : m.means ≡ Ok one.object = subst (λ (n : Member). n.means ≡ Ok one.object) same one.means in
    let cells = repeated x.count (leaves (leaves_below program.structs s) (Within s i) x.ty) in
    let rest = field_leaves (leaves_below program.structs s) s (i + 1) xs in
    fills_as program own (types_of cells ++ types_of rest) (types_of (cells ++ rest)) (first_values program.types program.structs vs ys) (sym (map-append (λ (l : Leaf). l.type) cells rest))
    (fills_values program own (types_of cells ++ types_of rest) (first_values program.types program.structs vs both.left ++ first_values program.types program.structs vs both.right) (first_values program.types program.structs vs ys)
    (sym (values_append program.types program.structs vs both.left both.right) ∙ ap (first_values program.types program.structs vs) (same_right (both.left ++ both.right) ys both.made))
    (fills_append program own (types_of cells) (types_of rest) (first_values program.types program.structs vs both.left) (first_values program.types program.structs vs both.right)
    (first_field program vs own s i m ms x xs one.object both.left h means one.values)
    (members_fill program vs own s (i + 1) all parts ms xs both.right placed (tail_behind all m ms i tail) (behind program.structs s m ms x xs h) both.second)))

-- the cells of struct s
pub struct_fills : (program : Program) (vs : List Variable) (own s : ℕ) (p : Place) (ms : List Member) (es : List Part) (ys : List First) → AreSingular ms → AreGood program vs own es → AreFields program.structs s ms (fields_of program.structs s) → after (placed_parts p ms 0 es) (λ parts. members_first parts 0 ms) ≡ Right ys
    → Fills program own (types_of (struct_cells program.structs s)) (first_values program.types program.structs vs ys)
unfolding struct_cells
struct_fills program vs own s p ms es ys singular good h e =
    let parts = after_right (placed_parts p ms 0 es) (λ xs. members_first xs 0 ms) ys e in
    members_fill program vs own s 0 ms parts.value ms (fields_of program.structs s) ys (all_placed program vs own p ms 0 es parts.value singular good parts.right)
    (record { at = λ f m q. let same : 0 + f ≡ f = omega arith in ap (slice_get ms) same ∙ q })
    h parts.made
