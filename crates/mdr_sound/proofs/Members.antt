-- Members of what is known are known (C99 6.5.2.3).
use Rattle.std.specs.Prelude.{◌≡◌, ◌⊎◌, ℕ, Bool, true, false, List, Option, Some, None, Ok, slice_get, IsTrue}
use Rattle.std.proofs.Common.{inl, inr, refl, ap, sym, ◌∙◌, subst}
use Rattle.std.proofs.lemmas.Option.{none-some, same_Some}
use Rattle.mdr_rich.specs.declared.code.Lval.{Lval}
use Rattle.mdr_rich.specs.declared.code.Lval.TheVariants as lval
use Rattle.mdr_core.specs.declared.place.Place.{Place}
use Rattle.mdr_core.specs.declared.program.Program.{Program}
use Rattle.mdr_core.specs.declared.types.Ty.{Ty, out-Ty}
use Rattle.mdr_core.specs.declared.types.Ty.TheOpen.{Ty-F}
use Rattle.mdr_core.specs.declared.types.Ty.TheVariants as type
use Rattle.mdr_rich.specs.Folds.{lvalue_of}
use Rattle.mdr_core.specs.Types.{is_scalar, is_scalar_by}
use Rattle.mdr_core.specs.Typing.{Slot, One, extent}
use Rattle.mdr_rich.specs.Typing.{Designates, HasAddress}
use Rattle.mdr_rich.proofs.Coded.{member_is}
use Rattle.mdr_faults.specs.declared.scope.Member.{Member}
use Rattle.mdr_faults.specs.declared.scope.Scope.{Scope}
use Rattle.mdr_faults.specs.declared.scope.StructEntry.{StructEntry}
use Rattle.mdr_faults.specs.Faults.{Checked, Right, again}
use Rattle.mdr_operand.specs.declared.operand.Operand.{Operand}
use Rattle.mdr_operand.specs.declared.operand.Operand.TheVariants as operand
use Rattle.mdr_operand.specs.declared.room.LocalName.{LocalName}
use Rattle.mdr_operand.specs.Forms.{needed, pointer_at}
use Rattle.mdr_operand.specs.Written.{Written}
use Rattle.mdr_postfix.specs.declared.located.Located.{Located}
use Rattle.mdr_postfix.specs.declared.member.Found.{Found}
use Rattle.mdr_postfix.specs.Members.{object_of, object_at, target, target_located, located, struct_by, struct_of, member_numbered, member_position, member_found, member_among, struct_entry, member_named, member_operand, member_in, member_of, member_rule}
use Rattle.mdr_sound.specs.Knowing.{IsKnownField, Knows}
use Rattle.mdr_sound.specs.Operands.{IsInSlot, IsKnownObject, IsKnown}
use Rattle.mdr_sound.proofs.Layers.{struct_from}
use Rattle.mdr_sound.proofs.Placed.{same_extent, type_is, object_known}
use Rattle.mdr_sound.proofs.Prefixes.{deref_known}
use Rattle.mdr_sound.proofs.Rights.{after_right, again_right, needed_right, same_right, not_right}
use Rattle.mdr_sound.proofs.Values.{pointer_known}

-- ---- structs

struct_layer : (t : Ty) (l : Ty-F Ty) (s : ℕ) → out-Ty t ≡ l → struct_by l ≡ Some s → t ≡ type.Struct s
struct_layer t (Ty-F.Struct r) s is e = struct_from t s (is ∙ ap Ty-F.Struct (same_Some _ _ e))
struct_layer t (Ty-F.Int k) s is e = absurd (none-some s e)
struct_layer t Ty-F.Lock s is e = absurd (none-some s e)
struct_layer t (Ty-F.Ptr u) s is e = absurd (none-some s e)
struct_layer t Ty-F.VoidPtr s is e = absurd (none-some s e)
struct_layer t (Ty-F.Fun ts) s is e = absurd (none-some s e)
struct_layer t Ty-F.Void s is e = absurd (none-some s e)

struct_is : (t : Ty) (s : ℕ) → struct_of t ≡ Some s → t ≡ type.Struct s
struct_is t s e = struct_layer t (out-Ty t) s refl e

-- a struct is no scalar
struct_not_scalar : {C : Type 0} (s : ℕ) → IsTrue (is_scalar (type.Struct s)) → C
struct_not_scalar s h = let lost : false ≡ true = sym (ap is_scalar_by (type.outs-Struct s)) ∙ h in absurd cc

-- a struct's entry, by its type
record Entered (scope : Scope) (t : Ty) (entry : StructEntry) : Type 0 where
  struct : ℕ
  named : struct_of t ≡ Some struct
  there : slice_get scope.structs struct ≡ Some entry

entered : (scope : Scope) (t : Ty) (o : Option ℕ) (entry : StructEntry) → struct_of t ≡ o → struct_entry scope o ≡ Some entry → Entered scope t entry
entered scope t None entry is e = absurd (none-some entry e)
entered scope t (Some s) entry is e = record { struct = s; named = is; there = e }

-- ---- members

record Counted (members : List Member) (m : Found) : Type 0 where
  member : Member
  there : slice_get members m.number ≡ Some member
  means : member.means ≡ Ok m.object

numbered : (at : Place) (members : List Member) (f : ℕ) (o : Option Member) (m : Found) → slice_get members f ≡ o → member_numbered at f o ≡ Right m → Counted members m
numbered at members f None m is e = not_right _ m e
numbered at members f (Some x) m is e =
    let a = after_right (again x.means) (λ o. Right (record { number = f; object = o })) m e in
    let same : record { number = f; object = a.value } ≡ m = same_right _ _ a.made in
    subst (Counted members) same (record { member = x; there = is; means = again_right x.means a.value a.right })

found : (at : Place) (members : List Member) (o : Option ℕ) (m : Found) → member_found at members o ≡ Right m → Counted members m
found at members None m e = not_right _ m e
found at members (Some f) m e = numbered at members f (slice_get members f) m refl e

among : (at : Place) (name : List ℕ) (s : StructEntry) (m : Found) → member_among at name s ≡ Right m → Counted s.members m
unfolding member_among
among at name s m e = found at s.members (member_position s.members name) m e

module _ (program : Program) (slots : List Slot) (names : List LocalName) where
  -- an object that has an address
  record IsAt (x : Located) : Type 0 where
    designates : Designates program slots (lvalue_of x.lval) (One x.ty)
    kept : IsTrue (is_scalar x.ty) ⊎ HasAddress (lvalue_of x.lval)

  -- a member of a struct is one of the program's
  record IsPart (x : Located) (m : Found) : Type 0 where
    struct : ℕ
    is : x.ty ≡ type.Struct struct
    field : IsKnownField program struct m.number m.object

  part_of : (scope : Scope) (p at : Place) (name : List ℕ) (x : Located) (m : Found) → Knows program scope → member_named scope p at name x.ty ≡ Right m → IsPart x m
  unfolding member_named
  part_of scope p at name x m k e =
      let a = after_right (needed p (struct_entry scope (struct_of x.ty))) (member_among at name) m e in
      let s = entered scope x.ty (struct_of x.ty) a.value refl (needed_right p (struct_entry scope (struct_of x.ty)) a.value a.right) in
      let c = among at name a.value m a.made in
      record {
        struct = s.struct;
        is = struct_is x.ty s.struct s.named;
        field = k.members s.struct m.number a.value c.member m.object s.there c.there c.means;
      }

  module _ (w : Written) where
    addressed : (l : Lval) (t : Ty) (s : ℕ) → t ≡ type.Struct s → IsTrue (is_scalar t) ⊎ HasAddress (lvalue_of l) → HasAddress (lvalue_of l)
    addressed l t s is (inl h) = struct_not_scalar s (subst (λ u. IsTrue (is_scalar u)) is h)
    addressed l t s is (inr h) = h

    member_known_by : (x : Located) (m : Found) → IsAt x → IsPart x m → IsKnown program slots names w (member_operand x m)
    member_known_by x m h part =
        let o = m.object in
        let f = part.field in
        object_known program slots names w (lval.Member x.lval m.number o.ty) o
        (subst (λ d. Designates program slots d (extent o.array o.ty o.count)) (sym (member_is x.lval m.number o.ty)) (
          record {
            struct = part.struct;
            whole = subst (λ t. Designates program slots (lvalue_of x.lval) (One t)) part.is h.designates;
            field = f.field;
            names = f.names;
            is = same_extent f.field.array o.array f.field.ty o.ty f.field.count o.count f.array f.ty f.count;
          },
          type_is o.array o.ty o.count,
        ))
        f.formed (subst HasAddress (sym (member_is x.lval m.number o.ty)) (addressed x.lval x.ty part.struct part.is h.kept))

    member_in_known : (scope : Scope) (p at : Place) (name : List ℕ) (x : Located) (y : Operand) → Knows program scope → IsAt x → member_in scope p at name x ≡ Right y → IsKnown program slots names w y
    unfolding member_in
    member_in_known scope p at name x y k h e =
        let a = after_right (member_named scope p at name x.ty) (λ m. Right (member_operand x m)) y e in
        subst (IsKnown program slots names w) (same_right _ _ a.made) (member_known_by x a.value h (part_of scope p at name x a.value k a.right))

  -- ---- what has members

  module _ (w v : Written) where
    at_object : (l : Lval) (t : Ty) → IsKnownObject program slots names v l t → IsAt (record { lval = l; ty = t })
    at_object l t h = record { designates = h.designates; kept = by h.kept }
      where
        by : HasAddress (lvalue_of l) ⊎ (IsInSlot names v × IsTrue (is_scalar t)) → IsTrue (is_scalar t) ⊎ HasAddress (lvalue_of l)
        by (inl a) = inr a
        by (inr s) = inl s.1

    object_at_by : (x : Operand) (l : Located) → IsKnown program slots names v x → object_of x ≡ Some l → IsAt l
    object_at_by (operand.Value u) l h e = absurd (none-some l e)
    object_at_by (operand.Zero k) l h e = absurd (none-some l e)
    object_at_by operand.Null l h e = absurd (none-some l e)
    object_at_by (operand.Object m t) l h e = subst IsAt (same_Some _ _ e) (at_object m t h)
    object_at_by (operand.Array m t n) l h e = absurd (none-some l e)
    object_at_by (operand.Function f ts) l h e = absurd (none-some l e)

    target_at_by : (p : Place) (x : Operand) (l : Located) → IsKnown program slots names v x → target_located p x ≡ Right l → IsAt l
    unfolding target_located
    target_at_by p x l h e =
        let a = after_right (pointer_at p x) (λ x. Right (target x)) l e in
        subst IsAt (same_right _ _ a.made) (at_object (lval.Deref a.value.value) a.value.ty (deref_known program slots names v a.value.value a.value.ty (pointer_known program slots names v p x a.value h a.right)))

    located_at : (p : Place) (is_arrow : Bool) (x : Operand) (l : Located) → IsKnown program slots names v x → located p is_arrow x ≡ Right l → IsAt l
    unfolding located object_at
    located_at p true x l h e = target_at_by p x l h e
    located_at p false x l h e = object_at_by x l h (needed_right p (object_of x) l e)

    member_of_known : (scope : Scope) (p at : Place) (is_arrow : Bool) (name : List ℕ) (x y : Operand) → Knows program scope → IsKnown program slots names v x → member_of scope p at is_arrow name x ≡ Right y → IsKnown program slots names w y
    unfolding member_of
    member_of_known scope p at is_arrow name x y k h e =
        let a = after_right (located p is_arrow x) (member_in scope p at name) y e in
        member_in_known w scope p at name a.value y k (located_at p is_arrow x a.value h a.right) a.made

    pub member_known : (scope : Scope) (p at : Place) (is_arrow : Bool) (name : List ℕ) (c : Checked Operand) (y : Operand) → Knows program scope
        → ((x : Operand) → c ≡ Right x → IsKnown program slots names v x) → member_rule scope p at is_arrow name c ≡ Right y → IsKnown program slots names w y
    unfolding member_rule
    member_known scope p at is_arrow name c y k h e =
        let a = after_right c (member_of scope p at is_arrow name) y e in
        member_of_known scope p at is_arrow name a.value y k (h a.value a.right) a.made
