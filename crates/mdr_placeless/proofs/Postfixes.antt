-- The rules of names, members and subscripts look at no place.
use Rattle.mdr_core.specs.Layout.{chosen}
use Rattle.mdr_core.specs.declared.place.Place.{Place}
use Rattle.mdr_core.specs.declared.types.Ty.TheOpen.{Ty-F}
use Rattle.mdr_faults.specs.Faults.{Checked, after}
use Rattle.mdr_faults.specs.declared.scope.Member.{Member}
use Rattle.mdr_faults.specs.declared.scope.Named.{Named}
use Rattle.mdr_faults.specs.declared.scope.Scope.{Scope}
use Rattle.mdr_faults.specs.declared.scope.StructEntry.{StructEntry}
use Rattle.mdr_operand.specs.Forms.{is_complete, is_complete_by, is_number, needed}
use Rattle.mdr_operand.specs.Rooms.{local_from, local_named}
use Rattle.mdr_operand.specs.declared.operand.Integer.{Integer}
use Rattle.mdr_operand.specs.declared.operand.Operand.{Operand}
use Rattle.mdr_operand.specs.declared.operand.Pointer.{Pointer}
use Rattle.mdr_operand.specs.declared.room.LocalName.{LocalName}
use Rattle.mdr_placeless.proofs.Combined.{after_alike, both_alike, chosen_alike, chosen_by, needed_alike, rights_by}
use Rattle.mdr_placeless.proofs.Operands.{integers, pointers}
use Rattle.mdr_placeless.proofs.Scopes.{AreEntries, AreMembers, AreNamed, AreScopes, AreTold, Pairs, Perhaps, again_alike, entity_alike, pairs_get, pairs_position, structs_length}
use Rattle.mdr_placeless.proofs.Scopes.Pairs.{Cons, Nil}
use Rattle.mdr_placeless.proofs.Scopes.Perhaps.{Nones, Somes}
use Rattle.mdr_placeless.specs.Alike.{AreAlike}
use Rattle.mdr_placeless.specs.Alike.AreAlike.{Rights, Wrongs}
use Rattle.mdr_postfix.specs.Members.{located, member_among, member_found, member_in, member_named, member_numbered, member_of, member_position, member_rule, object_at, target_located}
use Rattle.mdr_postfix.specs.Names.{file_name, local_operand, local_or, name_rule, object_operand, place_of_local}
use Rattle.mdr_postfix.specs.Subscripts.{array_of, element, element_at, element_by, element_of_array, element_of_pointer, is_array, subscript_of, subscript_rule}
use Rattle.mdr_postfix.specs.declared.located.Located.{Located}
use Rattle.std.proofs.Common.{Bool, List, None, Option, Some, ap, bytes_eq, false, nat_lt, refl, subst, true, ℕ, ◌∙◌, ◌≡◌}
use Rattle.mdr_rich.specs.declared.code.Lval.TheVariants as lval
use Rattle.mdr_rich.specs.declared.code.Lval.{Lval}
use Rattle.mdr_core.specs.declared.types.Ty.{Ty, out-Ty}
use Rattle.mdr_postfix.specs.Members.{object_of, struct_entry, struct_of}

-- ---- complete types

complete_by : {s t : Scope} → AreScopes s t → (l : Ty-F Ty) → is_complete_by s l ≡ is_complete_by t l
complete_by a (Ty-F.Int k) = refl
complete_by a Ty-F.Lock = refl
complete_by a (Ty-F.Struct n) = ap (λ k. nat_lt n k) (structs_length a)
complete_by a (Ty-F.Ptr u) = refl
complete_by a Ty-F.VoidPtr = refl
complete_by a (Ty-F.Fun us) = refl
complete_by a Ty-F.Void = refl

pub complete_alike : {s t : Scope} → AreScopes s t → (u : Ty) → is_complete s u ≡ is_complete t u
unfolding is_complete
complete_alike a u = complete_by a (out-Ty u)

-- ---- names

pub record AreLocalNames (n m : LocalName) : Type 0 where
  pub named : n.name ≡ m.name
  pub at_slot : n.slot ≡ m.slot
  pub apart : n.is_object ≡ m.is_object
  pub mean : AreTold n.means m.means

local_chosen : {n m : LocalName} {o p : Option LocalName} → AreLocalNames n m → Perhaps AreLocalNames o p → (t u : Bool) → t ≡ u → Perhaps AreLocalNames (chosen t (Some n) o) (chosen u (Some m) p)
local_chosen {n = n} {m = m} {p = p} r h true u e = subst (λ b. Perhaps AreLocalNames (Some n) (chosen b (Some m) p)) e (Somes r)
local_chosen {m = m} {o = o} {p = p} r h false u e = subst (λ b. Perhaps AreLocalNames o (chosen b (Some m) p)) e h

local_from_alike : (name : List ℕ) {ns ms : List LocalName} → Pairs AreLocalNames ns ms → (o p : Option LocalName) → Perhaps AreLocalNames o p → Perhaps AreLocalNames (local_from o ns name) (local_from p ms name)
unfolding local_from
local_from_alike name Nil o p h = h
local_from_alike name (Cons {x = x} {y = y} r rs) o p h =
    local_from_alike name rs (chosen (bytes_eq x.name name) (Some x) o) (chosen (bytes_eq y.name name) (Some y) p) (local_chosen r h _ _ (ap (λ (z : List ℕ). bytes_eq z name) r.named))

pub local_alike : {ns ms : List LocalName} (name : List ℕ) → Pairs AreLocalNames ns ms → Perhaps AreLocalNames (local_named ns name) (local_named ms name)
local_alike name h = local_from_alike name h None None Nones

file_names : (p q : Place) {n m : Option Named} → Perhaps AreNamed n m → AreAlike (file_name p n) (file_name q m)
unfolding file_name
file_names p q Nones = Wrongs _ _
file_names p q (Somes r) = after_alike (again_alike r.mean) (λ e. Rights _)

local_place : {n m : LocalName} → AreLocalNames n m → (t : Ty) → place_of_local n t ≡ place_of_local m t
local_place {n = n} {m = m} r t = ap (λ i. chosen n.is_object (lval.Object i t) (lval.Slot i t)) r.at_slot ∙ ap (λ b. chosen b (lval.Object m.slot t) (lval.Slot m.slot t)) r.apart

locals_alike : {n m : LocalName} → AreLocalNames n m → AreAlike (local_operand n) (local_operand m)
unfolding local_operand
locals_alike r = after_alike (again_alike r.mean) (λ o. rights_by (ap (λ (l : Lval). object_operand l o) (local_place r o.ty)))

locals_or : {n m : Option LocalName} {c d : Checked Operand} → Perhaps AreLocalNames n m → AreAlike c d → AreAlike (local_or n c) (local_or m d)
locals_or Nones h = h
locals_or (Somes r) h = locals_alike r

pub name_rules : {s t : Scope} {ns ms : List LocalName} → AreScopes s t → Pairs AreLocalNames ns ms → (p q : Place) (name : List ℕ) → AreAlike (name_rule s ns p name) (name_rule t ms q name)
unfolding name_rule
name_rules a b p q name = locals_or (local_alike name b) (file_names p q (entity_alike a name))

-- ---- members

objects_at : (p q : Place) (x : Operand) → AreAlike (object_at p x) (object_at q x)
unfolding object_at
objects_at p q x = needed_alike p q (object_of x)

targets : (p q : Place) (x : Operand) → AreAlike (target_located p x) (target_located q x)
unfolding target_located
targets p q x = after_alike (pointers p q x) (λ y. Rights _)

locations : (p q : Place) (is_arrow : Bool) (x : Operand) → AreAlike (located p is_arrow x) (located q is_arrow x)
unfolding located
locations p q true x = targets p q x
locations p q false x = objects_at p q x

member_numbers : (p q : Place) (f : ℕ) {m n : Option Member} → Perhaps AreMembers m n → AreAlike (member_numbered p f m) (member_numbered q f n)
member_numbers p q f Nones = Wrongs _ _
member_numbers p q f (Somes r) = after_alike (again_alike r.mean) (λ o. Rights _)

members_found : (p q : Place) {ms ns : List Member} → Pairs AreMembers ms ns → (f : Option ℕ) → AreAlike (member_found p ms f) (member_found q ns f)
members_found p q h None = Wrongs _ _
members_found p q h (Some f) = member_numbers p q f (pairs_get f h)

same_position : {ms ns : List Member} (name : List ℕ) → Pairs AreMembers ms ns → member_position ms name ≡ member_position ns name
unfolding member_position
same_position name h = pairs_position _ _ (λ m n r. ap (λ (x : List ℕ). bytes_eq x name) r.named) h

members_among : (p q : Place) (name : List ℕ) {d e : StructEntry} → AreEntries d e → AreAlike (member_among p name d) (member_among q name e)
unfolding member_among
members_among p q name {d = d} {e = e} r =
    subst (λ (f : Option ℕ). AreAlike (member_found p d.members (member_position d.members name)) (member_found q e.members f)) (same_position name r.member)
    (members_found p q r.member (member_position d.members name))

needed_entry : (p q : Place) (name : List ℕ) {d e : Option StructEntry} → Perhaps AreEntries d e → (at there : Place) → AreAlike (after (needed p d) (member_among at name)) (after (needed q e) (member_among there name))
needed_entry p q name Nones at there = Wrongs _ _
needed_entry p q name (Somes r) at there = members_among at there name r

entries : {s t : Scope} → AreScopes s t → (n : Option ℕ) → Perhaps AreEntries (struct_entry s n) (struct_entry t n)
entries a None = Nones
entries a (Some n) = pairs_get n a.struct

module _ {s t : Scope} (a : AreScopes s t) (p q at there : Place) (name : List ℕ) where
  members_named : (u : Ty) → AreAlike (member_named s p at name u) (member_named t q there name u)
  unfolding member_named
  members_named u = needed_entry p q name (entries a (struct_of u)) at there

  members_in : (x : Located) → AreAlike (member_in s p at name x) (member_in t q there name x)
  unfolding member_in
  members_in x = after_alike (members_named x.ty) (λ m. Rights _)

  members_of : (is_arrow : Bool) (x : Operand) → AreAlike (member_of s p at is_arrow name x) (member_of t q there is_arrow name x)
  unfolding member_of
  members_of is_arrow x = after_alike (locations p q is_arrow x) members_in

  pub member_rules : (is_arrow : Bool) {c d : Checked Operand} → AreAlike c d → AreAlike (member_rule s p at is_arrow name c) (member_rule t q there is_arrow name d)
  unfolding member_rule
  member_rules is_arrow h = after_alike h (members_of is_arrow)

-- ---- subscripts

module _ {s t : Scope} (a : AreScopes s t) (p q : Place) where
  of_arrays : (i : Integer) (x : Operand) → AreAlike (element_of_array p i x) (element_of_array q i x)
  unfolding element_of_array
  of_arrays i x = after_alike (needed_alike p q (array_of x)) (λ y. Rights _)

  elements_at : (i : Integer) (x : Pointer) → AreAlike (element_at s p i x) (element_at t q i x)
  unfolding element_at
  elements_at i x = chosen_by _ _ (complete_alike a x.ty) (Rights _) (Wrongs _ _)

  of_pointers : (i : Integer) (x : Operand) → AreAlike (element_of_pointer s p i x) (element_of_pointer t q i x)
  unfolding element_of_pointer
  of_pointers i x = after_alike (pointers p q x) (elements_at i)

  elements_by : (x : Operand) (i : Integer) → AreAlike (element_by s p x i) (element_by t q x i)
  unfolding element_by
  elements_by x i = chosen_alike (is_array x) (of_arrays i x) (of_pointers i x)

  elements : (x y : Operand) → AreAlike (element s p x y) (element t q x y)
  unfolding element
  elements x y = after_alike (integers p q y) (elements_by x)

  subscripts : (x y : Operand) → AreAlike (subscript_of s p x y) (subscript_of t q x y)
  unfolding subscript_of
  subscripts x y = chosen_alike (is_number y) (elements x y) (elements y x)

  pub subscript_rules : {c c' d d' : Checked Operand} → AreAlike c c' → AreAlike d d' → AreAlike (subscript_rule s p c d) (subscript_rule t q c' d')
  unfolding subscript_rule
  subscript_rules h k = both_alike h k subscripts
