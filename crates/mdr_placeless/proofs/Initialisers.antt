-- The rules of initialisers look at no place.
use Rattle.mdr_check.specs.Initialisers.{address_first, address_if, address_named, are_once, are_plain, array_first, constant_first, element_of, elements_first, entity_first, handle_first, has_room, initial, initial_layer, is_aggregate, is_any_pointer_by, is_same_field, list_by, list_first, located_first, member_first, members_first, named_first, null_if, number_first, part, part_field, part_for, part_layer, part_number, placed_at, placed_part, placed_parts, struct_first, suits_struct, text_by, text_first}
use Rattle.mdr_check.specs.declared.initialiser.Placed.{Placed}
use Rattle.mdr_core.specs.Types.{is_scalar}
use Rattle.mdr_core.specs.declared.place.Place.{Place}
use Rattle.mdr_core.specs.declared.types.Ty.TheOpen.{Ty-F}
use Rattle.mdr_faults.specs.Alike.{are_alike, is_alike}
use Rattle.mdr_faults.specs.Declarations.{number_constant}
use Rattle.mdr_faults.specs.Faults.{Checked, refuse}
use Rattle.mdr_faults.specs.declared.fault.FaultKind.TheVariants.{Mismatch, UnknownName}
use Rattle.mdr_faults.specs.declared.scope.Constant.{Constant}
use Rattle.mdr_faults.specs.declared.scope.Entity.{Entity}
use Rattle.mdr_faults.specs.declared.scope.Member.{Member}
use Rattle.mdr_faults.specs.declared.scope.Named.{Named}
use Rattle.mdr_faults.specs.declared.scope.Scope.{Scope}
use Rattle.mdr_faults.specs.declared.scope.StructEntry.{StructEntry}
use Rattle.mdr_operand.specs.Forms.{is_null}
use Rattle.mdr_placeless.proofs.Combined.{after_alike, both_alike, chosen_alike, demand_by, next_alike, rights_by}
use Rattle.mdr_placeless.proofs.Constants.{AreConsts, consts}
use Rattle.mdr_placeless.proofs.Scopes.{AreEntries, AreMembers, AreNamed, AreScopes, Pairs, Perhaps, again_alike, entity_alike, pairs_all, pairs_any, pairs_get, pairs_length, pairs_over, pairs_position, perhaps_some}
use Rattle.mdr_placeless.proofs.Scopes.Pairs.{Cons, Nil}
use Rattle.mdr_placeless.proofs.Scopes.Perhaps.{Nones, Somes}
use Rattle.mdr_placeless.specs.Alike.{AreAlike}
use Rattle.mdr_placeless.specs.Alike.AreAlike.{Rights, Wrongs}
use Rattle.mdr_roundtrip.specs.Initialised.{elem_unplaced, init_unplaced, unplaced_const, unplaced_elem, unplaced_field, unplaced_init}
use Rattle.mdr_roundtrip.specs.Unplaced.{nowhere}
use Rattle.mdr_syntax.specs.declared.tree.Const.{Const}
use Rattle.mdr_syntax.specs.declared.tree.FieldName.{FieldName}
use Rattle.std.proofs.Common.{Bool, List, None, Option, Some, [], ap, bytes_eq, false, is_none, is_some, length, map, nat_lt, not, position, refl, subst, sym, true, ℕ, ◌&&◌, ◌++◌, ◌+◌, ◌==◌, ◌||◌, ◌∙◌, ◌∷◌, ◌≡◌}
use Rattle.std.specs.List.{list_any}
use Rattle.mdr_check.specs.Initialisers.{Part, are_named, single, sole, struct_by, numbered, placed, takes_text, left_of}
use Rattle.mdr_check.specs.declared.initialiser.First.{First}
use Rattle.mdr_core.specs.declared.types.Ty.{Ty, out-Ty}
use Rattle.mdr_faults.specs.declared.scope.Entity.TheVariants as entity
use Rattle.mdr_faults.specs.declared.scope.Object.{Object}
use Rattle.mdr_faults.specs.declared.scope.Signature.{Signature}
use Rattle.mdr_placeless.proofs.Constants.AreConsts.{Numbers, Worded}
use Rattle.mdr_roundtrip.proofs.Unplacing.{elem_made}
use Rattle.mdr_syntax.specs.declared.tree.Elem.{Elem}
use Rattle.mdr_syntax.specs.declared.tree.Init.TheFolds.{ind-Init, map-Init, fold-roll-Init, fold_out-Elem}
use Rattle.mdr_syntax.specs.declared.tree.Init.TheOpen.{Init-F}
use Rattle.mdr_syntax.specs.declared.tree.Init.TheVariants.{rolls-Const as init-Const, rolls-Null as init-Null, rolls-Address as init-Address, rolls-Text as init-Text, rolls-List as init-List}
use Rattle.mdr_syntax.specs.declared.tree.Init.TheViews.{roll-Init}
use Rattle.mdr_syntax.specs.declared.tree.Init.{Init}

-- ---- single values

nulls_if : (p q : Place) (b : Bool) → AreAlike (null_if p b) (null_if q b)
nulls_if p q true = Rights _
nulls_if p q false = Wrongs _ _

numbers_first : (p q : Place) (is_null : Bool) (c : Constant) (l : Ty-F Ty) → AreAlike (number_first p is_null c l) (number_first q is_null c l)
numbers_first p q is_null c (Ty-F.Int k) = Rights _
numbers_first p q is_null c Ty-F.Lock = Wrongs _ _
numbers_first p q is_null c (Ty-F.Struct n) = Wrongs _ _
numbers_first p q is_null c (Ty-F.Ptr u) = nulls_if p q is_null
numbers_first p q is_null c Ty-F.VoidPtr = nulls_if p q is_null
numbers_first p q is_null c (Ty-F.Fun us) = nulls_if p q is_null
numbers_first p q is_null c Ty-F.Void = Wrongs _ _

handles_first : (p q : Place) (f : Signature) (l : Ty-F Ty) → AreAlike (handle_first p f l) (handle_first q f l)
handles_first p q f (Ty-F.Int k) = Wrongs _ _
handles_first p q f Ty-F.Lock = Wrongs _ _
handles_first p q f (Ty-F.Struct n) = Wrongs _ _
handles_first p q f (Ty-F.Ptr u) = Wrongs _ _
handles_first p q f Ty-F.VoidPtr = Wrongs _ _
handles_first p q f (Ty-F.Fun us) = chosen_alike (are_alike us (f.result ∷ f.params)) (Rights _) (Wrongs _ _)
handles_first p q f Ty-F.Void = Wrongs _ _

entities_first : (p q : Place) (u : Ty) (x : Entity) → AreAlike (entity_first p u x) (entity_first q u x)
entities_first p q u (entity.Constant c) = numbers_first p q false c (out-Ty u)
entities_first p q u (entity.Global g o) = Wrongs _ _
entities_first p q u (entity.Function f) = handles_first p q f (out-Ty u)

names_first : (at there p q : Place) (u : Ty) {n m : Option Named} → Perhaps AreNamed n m → AreAlike (named_first at p u n) (named_first there q u m)
names_first at there p q u Nones = Wrongs _ _
names_first at there p q u (Somes r) = after_alike (again_alike r.mean) (entities_first p q u)

constants_first : {s t : Scope} → AreScopes s t → (p q : Place) {c d : Const} → AreConsts c d → (u : Ty) → AreAlike (constant_first s p c u) (constant_first t q d u)
constants_first a p q (Numbers at there b n k) u = numbers_first p q (not b && (n == 0)) (number_constant b n k) (out-Ty u)
constants_first a p q (Worded at there name) u = names_first at there p q u (entity_alike a name)

-- ---- addresses

addresses_if : (p q : Place) (g : ℕ) (b : Bool) → AreAlike (address_if p g b) (address_if q g b)
addresses_if p q g true = Rights _
addresses_if p q g false = Wrongs _ _

addresses_first : (p q : Place) (may_be : Bool) (g : ℕ) (o : Object) (l : Ty-F Ty) → AreAlike (address_first p may_be g o l) (address_first q may_be g o l)
addresses_first p q may_be g o (Ty-F.Int k) = Wrongs _ _
addresses_first p q may_be g o Ty-F.Lock = Wrongs _ _
addresses_first p q may_be g o (Ty-F.Struct n) = Wrongs _ _
addresses_first p q may_be g o (Ty-F.Ptr u) = addresses_if p q g (may_be && is_alike u o.ty)
addresses_first p q may_be g o Ty-F.VoidPtr = addresses_if p q g may_be
addresses_first p q may_be g o (Ty-F.Fun us) = Wrongs _ _
addresses_first p q may_be g o Ty-F.Void = Wrongs _ _

locations_first : (own : ℕ) (p q : Place) (u : Ty) (x : Entity) → AreAlike (located_first own p u x) (located_first own q u x)
locations_first own p q u (entity.Constant c) = Wrongs _ _
locations_first own p q u (entity.Global g o) = addresses_first p q (nat_lt g own && not o.array) g o (out-Ty u)
locations_first own p q u (entity.Function f) = handles_first p q f (out-Ty u)

addresses_named : (own : ℕ) (at there p q : Place) (u : Ty) {n m : Option Named} → Perhaps AreNamed n m → AreAlike (address_named own at p u n) (address_named own there q u m)
addresses_named own at there p q u Nones = Wrongs _ _
addresses_named own at there p q u (Somes r) = after_alike (again_alike r.mean) (locations_first own p q u)

-- ---- what takes a single value, and texts

soles : (p q : Place) (u : Ty) (x : First) → AreAlike (sole p u x) (sole q u x)
soles p q u x = chosen_alike (is_scalar u) (Rights _) (Wrongs _ _)

singles : (p q : Place) (o : Object) {c d : Checked First} → AreAlike c d → AreAlike (single p o c) (single q o d)
singles p q o h = chosen_alike (is_aggregate o) (Wrongs _ _) (after_alike h (soles p q o.ty))

texts_by : (p q : Place) (bytes : List ℕ) (o : Object) (l : Ty-F Ty) → AreAlike (text_by p bytes o l) (text_by q bytes o l)
texts_by p q bytes o (Ty-F.Int k) = Rights _
texts_by p q bytes o Ty-F.Lock = Wrongs _ _
texts_by p q bytes o (Ty-F.Struct n) = Wrongs _ _
texts_by p q bytes o (Ty-F.Ptr u) = Wrongs _ _
texts_by p q bytes o Ty-F.VoidPtr = Wrongs _ _
texts_by p q bytes o (Ty-F.Fun us) = Wrongs _ _
texts_by p q bytes o Ty-F.Void = Wrongs _ _

texts_first : (p q : Place) (bytes : List ℕ) (o : Object) → AreAlike (text_first p bytes o) (text_first q bytes o)
unfolding text_first
texts_first p q bytes o = chosen_alike (takes_text o (length bytes)) (texts_by p q bytes o (out-Ty o.ty)) (Wrongs _ _)

-- ---- parts of lists

pub record AreFields (f g : FieldName) : Type 0 where
  pub same : f.name ≡ g.name

pub record AreParts (x y : Part) : Type 0 where
  pub fields_both : Perhaps AreFields x.field y.field
  pub inits_both : (o : Object) → AreAlike (x.init o) (y.init o)

none_both : {o p : Option FieldName} → Perhaps AreFields o p → is_none o ≡ is_none p
none_both Nones = refl
none_both (Somes r) = refl

same_fields : {o o' p p' : Option FieldName} → Perhaps AreFields o o' → Perhaps AreFields p p' → is_same_field o p ≡ is_same_field o' p'
same_fields Nones q = refl
same_fields (Somes r) Nones = refl
same_fields (Somes {x = f} {y = f'} r) (Somes {x = g} {y = g'} q) = ap (λ (n : List ℕ). bytes_eq n g.name) r.same ∙ ap (λ (n : List ℕ). bytes_eq f'.name n) q.same

plain_both : {xs ys : List Part} → Pairs AreParts xs ys → are_plain part_field xs ≡ are_plain part_field ys
plain_both h = pairs_all (λ x. is_none (part_field x)) (λ x. is_none (part_field x)) (λ x y r. none_both r.fields_both) h

named_parts : {xs ys : List Part} → Pairs AreParts xs ys → are_named part_field xs ≡ are_named part_field ys
named_parts h = pairs_all (λ x. is_some (part_field x)) (λ x. is_some (part_field x)) (λ x y r. perhaps_some r.fields_both) h

once_both : {xs ys : List Part} → Pairs AreParts xs ys → are_once part_field xs ≡ are_once part_field ys
unfolding are_once
once_both Nil = refl
once_both (Cons {x = x} {y = y} {xs = xs} {ys = ys} r rs) =
    ap (λ b. not b && are_once part_field xs) (pairs_any (λ z. is_same_field (part_field z) (part_field x)) (λ z. is_same_field (part_field z) (part_field y)) (λ z w q. same_fields q.fields_both r.fields_both) rs)
    ∙ ap (λ b. not (list_any (λ z. is_same_field (part_field z) (part_field y)) ys) && b) (once_both rs)

-- ---- lists for arrays

elements_both : (o : Object) {xs ys : List Part} → Pairs AreParts xs ys → AreAlike (elements_first o xs) (elements_first o ys)
unfolding elements_first
elements_both o Nil = Rights _
elements_both o (Cons r rs) = both_alike (r.inits_both o) (elements_both o rs) (λ x y. Rights _)

arrays_first : (p q : Place) (o : Object) {xs ys : List Part} → Pairs AreParts xs ys → AreAlike (array_first p o xs) (array_first q o ys)
unfolding array_first
arrays_first p q o {xs = xs} {ys = ys} h =
    demand_by p q Mismatch _ _ (ap (λ b. b && has_room o (length xs)) (plain_both h) ∙ ap (λ n. are_plain part_field ys && has_room o n) (pairs_length h))
    (after_alike (elements_both (element_of o) h) (λ zs. rights_by (ap (λ n. zs ++ left_of o n ∷ []) (pairs_length h))))

-- ---- lists for structs

numbered_both : {A : Type 0} {c d : Checked A} → AreAlike c d → (o : Option A) → AreAlike (numbered c o) (numbered d o)
numbered_both h None = h
numbered_both h (Some x) = Rights x

part_numbers : (p q : Place) {ms ns : List Member} → Pairs AreMembers ms ns → (j : ℕ) {f g : Option FieldName} → Perhaps AreFields f g → AreAlike (part_number p ms j f) (part_number q ns j g)
part_numbers p q h j Nones = Rights j
part_numbers p q {ms = ms} {ns = ns} h j (Somes {x = f} {y = g} r) =
    subst (λ (o : Option ℕ). AreAlike (numbered (refuse f.place UnknownName) (position (λ (m : Member). bytes_eq m.name f.name) ms)) (numbered (refuse g.place UnknownName) o))
    (pairs_position (λ (m : Member). bytes_eq m.name f.name) (λ (m : Member). bytes_eq m.name g.name) (λ m n k. ap (λ (x : List ℕ). bytes_eq x f.name) k.named ∙ ap (λ (x : List ℕ). bytes_eq n.name x) r.same) h)
    (numbered_both (Wrongs _ _) (position (λ (m : Member). bytes_eq m.name f.name) ms))

placed_both : (i : ℕ) {c d : Checked (List First)} → AreAlike c d → AreAlike (placed i c) (placed i d)
placed_both i h = after_alike h (λ xs. Rights _)

places_at : (p q : Place) (i : ℕ) (f g : Object → Checked (List First)) → ((o : Object) → AreAlike (f o) (g o)) → {m n : Option Member} → Perhaps AreMembers m n → AreAlike (placed_at p i f m) (placed_at q i g n)
places_at p q i f g h Nones = Wrongs _ _
places_at p q i f g h (Somes r) = placed_both i (after_alike (again_alike r.mean) h)

parts_placed : (p q : Place) {ms ns : List Member} → Pairs AreMembers ms ns → {xs ys : List Part} → Pairs AreParts xs ys → (j : ℕ) → AreAlike (placed_parts p ms j xs) (placed_parts q ns j ys)
unfolding placed_parts placed_part
parts_placed p q h Nil j = Rights _
parts_placed p q h (Cons {x = x} {y = y} r rs) j = next_alike (after_alike (part_numbers p q h j r.fields_both) (λ i. places_at p q i x.init y.init r.inits_both (pairs_get i h))) (parts_placed p q h rs (j + 1))

members_from : {m n : Member} → AreMembers m n → (o : Option Placed) → AreAlike (member_first m o) (member_first n o)
members_from r None = after_alike (again_alike r.mean) (λ o. Rights _)
members_from r (Some x) = Rights _

all_members : (parts : List Placed) (i : ℕ) {ms ns : List Member} → Pairs AreMembers ms ns → AreAlike (members_first parts i ms) (members_first parts i ns)
unfolding members_first
all_members parts i Nil = Rights _
all_members parts i (Cons r rs) = both_alike (members_from r (part_for parts i)) (all_members parts (i + 1) rs) (λ x y. Rights _)

suits_both : {ms ns : List Member} → Pairs AreMembers ms ns → {xs ys : List Part} → Pairs AreParts xs ys → suits_struct part_field ms xs ≡ suits_struct part_field ns ys
suits_both {ms = ms} {ns = ns} h {xs = xs} {ys = ys} k =
    ap (λ b. (b || are_named part_field xs) && are_once part_field xs && not (nat_lt (length ms) (length xs))) (plain_both k)
    ∙ ap (λ b. (are_plain part_field ys || b) && are_once part_field xs && not (nat_lt (length ms) (length xs))) (named_parts k)
    ∙ ap (λ b. (are_plain part_field ys || are_named part_field ys) && b && not (nat_lt (length ms) (length xs))) (once_both k)
    ∙ ap (λ n. (are_plain part_field ys || are_named part_field ys) && are_once part_field ys && not (nat_lt n (length xs))) (pairs_length h)
    ∙ ap (λ n. (are_plain part_field ys || are_named part_field ys) && are_once part_field ys && not (nat_lt (length ns) n)) (pairs_length k)

structs_first : (p q : Place) {ms ns : List Member} → Pairs AreMembers ms ns → {xs ys : List Part} → Pairs AreParts xs ys → AreAlike (struct_first p ms xs) (struct_first q ns ys)
unfolding struct_first
structs_first p q h k = demand_by p q Mismatch _ _ (suits_both h k) (after_alike (parts_placed p q h k 0) (λ parts. all_members parts 0 h))

structs_by : (p q : Place) {d e : Option StructEntry} → Perhaps AreEntries d e → {xs ys : List Part} → Pairs AreParts xs ys → AreAlike (struct_by p xs d) (struct_by q ys e)
structs_by p q Nones k = Wrongs _ _
structs_by p q (Somes r) k = structs_first p q r.member k

lists_by : {s t : Scope} → AreScopes s t → (p q : Place) {xs ys : List Part} → Pairs AreParts xs ys → (l : Ty-F Ty) → AreAlike (list_by s p xs l) (list_by t q ys l)
lists_by a p q k (Ty-F.Int i) = Wrongs _ _
lists_by a p q k Ty-F.Lock = Wrongs _ _
lists_by a p q k (Ty-F.Struct n) = structs_by p q (pairs_get n a.struct) k
lists_by a p q k (Ty-F.Ptr u) = Wrongs _ _
lists_by a p q k Ty-F.VoidPtr = Wrongs _ _
lists_by a p q k (Ty-F.Fun us) = Wrongs _ _
lists_by a p q k Ty-F.Void = Wrongs _ _

lists_first : {s t : Scope} → AreScopes s t → (p q : Place) {xs ys : List Part} → Pairs AreParts xs ys → (o : Object) → AreAlike (list_first s p xs o) (list_first t q ys o)
unfolding list_first
lists_first a p q k o = chosen_alike o.array (arrays_first p q o k) (lists_by a p q k (out-Ty o.ty))

-- ---- initialisers

pub record AreInits (i j : Init) : Type 0 where
  pub initials_both : (s t : Scope) → AreScopes s t → (own : ℕ) (p q : Place) (o : Object) → AreAlike (initial s own p i o) (initial t own q j o)

record AreElems (e f : Elem) : Type 0 where
  parts_both : (s t : Scope) → AreScopes s t → (own : ℕ) (p q : Place) → AreParts (part s own p e) (part t own q f)

parts_of : {es fs : List Elem} → Pairs AreElems es fs → (s t : Scope) → AreScopes s t → (own : ℕ) (p q : Place) → Pairs AreParts (map (part s own p) es) (map (part t own q) fs)
parts_of h s t a own p q = pairs_over (part s own p) (part t own q) (λ e f r. r.parts_both s t a own p q) h

-- layers that are alike
data AreLayers : Init-F Init Elem → Init-F Init Elem → Type 0 where
  Consts : {c d : Const} → AreConsts c d → AreLayers (Init-F.Const c) (Init-F.Const d)
  Nulls : (p q : Place) → AreLayers (Init-F.Null p) (Init-F.Null q)
  Addresses : (p q : Place) (name : List ℕ) → AreLayers (Init-F.Address p name) (Init-F.Address q name)
  Texts : (p q : Place) (bytes : List ℕ) → AreLayers (Init-F.Text p bytes) (Init-F.Text q bytes)
  Lists : (p q : Place) {es fs : List Elem} → Pairs AreElems es fs → AreLayers (Init-F.List p es) (Init-F.List q fs)

layer_initials : {k l : Init-F Init Elem} → AreLayers k l → (s t : Scope) → AreScopes s t → (own : ℕ) (p q : Place) (o : Object)
    → AreAlike (initial_layer s own p (map-Init Init Elem (Object → Checked (List First)) Part (initial s own p) (part s own p) k) o) (initial_layer t own q (map-Init Init Elem (Object → Checked (List First)) Part (initial t own q) (part t own q) l) o)
layer_initials (Consts r) s t a own p q o = singles p q o (constants_first a p q r o.ty)
layer_initials (Nulls at there) s t a own p q o = singles p q o (nulls_if p q (is_any_pointer_by (out-Ty o.ty)))
layer_initials (Addresses at there name) s t a own p q o = singles p q o (addresses_named own at there p q o.ty (entity_alike a name))
layer_initials (Texts at there bytes) s t a own p q o = texts_first p q bytes o
layer_initials (Lists at there h) s t a own p q o = lists_first a p q (parts_of h s t a own p q) o

rolled_both : {k l : Init-F Init Elem} → AreLayers k l → AreInits (roll-Init k) (roll-Init l)
rolled_both {k = k} {l = l} r = record {
  initials_both = λ s t a own p q o.
      subst (λ f. AreAlike (f o) (initial t own q (roll-Init l) o)) (sym (fold-roll-Init (Object → Checked (List First)) Part (initial_layer s own p) part_layer k))
      (subst (λ f. AreAlike (initial_layer s own p (map-Init Init Elem (Object → Checked (List First)) Part (initial s own p) (part s own p) k) o) (f o)) (sym (fold-roll-Init (Object → Checked (List First)) Part (initial_layer t own q) part_layer l))
      (layer_initials r s t a own p q o));
}

record GoodInit (i : Init) : Type 0 where
  by : AreInits i (unplaced_init i)

record GoodElem (e : Elem) : Type 0 where
  by : AreElems e (unplaced_elem e)

all_good : {Y : Type 0} (of : Y → Elem) → ((y : Y) → GoodElem (of y)) → (ys : List Y) → Pairs AreElems (map of ys) (map unplaced_elem (map of ys))
all_good of good [] = Nil
all_good of good (y ∷ ys) = Cons (good y).by (all_good of good ys)

good_by : (k l : Init-F Init Elem) (j : Init) → init_unplaced (map-Init Init Elem Init Elem unplaced_init unplaced_elem k) ≡ j → roll-Init l ≡ j → AreLayers k l → GoodInit (roll-Init k)
good_by k l j e f r = record { by = subst (λ i. AreInits (roll-Init k) i) (f ∙ sym e ∙ sym (fold-roll-Init Init Elem init_unplaced elem_unplaced k)) (rolled_both r) }

good_layer : {X Y : Type 0} (at : X → Init) (of : Y → Elem) → ((y : Y) → GoodElem (of y)) → (l : Init-F X Y) → GoodInit (roll-Init (map-Init X Y Init Elem at of l))
good_layer at of good (Init-F.Const c) = good_by (Init-F.Const c) (Init-F.Const (unplaced_const c)) _ refl (init-Const (unplaced_const c)) (Consts (consts c))
good_layer at of good (Init-F.Null p) = good_by (Init-F.Null p) (Init-F.Null nowhere) _ refl (init-Null nowhere) (Nulls p nowhere)
good_layer at of good (Init-F.Address p name) = good_by (Init-F.Address p name) (Init-F.Address nowhere name) _ refl (init-Address nowhere name) (Addresses p nowhere name)
good_layer at of good (Init-F.Text p bytes) = good_by (Init-F.Text p bytes) (Init-F.Text nowhere bytes) _ refl (init-Text nowhere bytes) (Texts p nowhere bytes)
good_layer at of good (Init-F.List p es) = good_by (Init-F.List p (map of es)) (Init-F.List nowhere (map unplaced_elem (map of es))) _ refl (init-List nowhere (map unplaced_elem (map of es))) (Lists p nowhere (all_good of good es))

fields_unplaced : (f : Option FieldName) → Perhaps AreFields f (unplaced_field f)
fields_unplaced None = Nones
fields_unplaced (Some f) = Somes (record { same = refl })

elems_both : (f g : Option FieldName) → Perhaps AreFields f g → {i j : Init} → AreInits i j → AreElems (record { field = f; init = i }) (record { field = g; init = j })
elems_both f g h {i = i} {j = j} r = record {
  parts_both = λ s t a own p q.
      subst (λ x. AreParts x (part t own q (record { field = g; init = j }))) (sym (fold_out-Elem (Object → Checked (List First)) Part (initial_layer s own p) part_layer (record { field = f; init = i })))
      (subst (λ y. AreParts (record { field = f; init = initial s own p i }) y) (sym (fold_out-Elem (Object → Checked (List First)) Part (initial_layer t own q) part_layer (record { field = g; init = j })))
      (record { fields_both = h; inits_both = r.initials_both s t a own p q }));
}

good_inits : (i : Init) → GoodInit i
good_inits = ind-Init GoodInit GoodElem
    (λ x y is. subst (λ k. GoodInit (roll-Init k)) is (good_layer (λ e. e.0) (λ e. e.0) (λ e. e.1) y))
    (λ x y is. record {
      by = subst (λ e. AreElems (record { field = x.field; init = x.init }) e) (sym (elem_made x.field x.init))
          (elems_both x.field (unplaced_field x.field) (fields_unplaced x.field) (subst GoodInit (ap (λ z. z.init) is) (y.init.1)).by);
    })

pub inits : (i : Init) → AreInits i (unplaced_init i)
inits i = (good_inits i).by
