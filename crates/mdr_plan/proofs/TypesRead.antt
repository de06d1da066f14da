-- A pointer type is read exactly.
use Rattle.std.proofs.Common.{◌≡◌, ℕ, Bool, true, false, ◌&&◌, ◌≤◌, List, [], ◌∷◌, ◌++◌, length, Some, IsTrue, refl, sym, ap, subst, ◌∙◌, arith}
use Rattle.std.proofs.lemmas.List.{append-nil}
use Rattle.mdr_core.specs.declared.types.Ty.{Ty}
use Rattle.mdr_core.specs.Types.{is_pointer}
use Rattle.mdr_plan.specs.Naming.{Naming, any_struct}
use Rattle.mdr_plan.specs.Shapes.{IsTypeText}
use Rattle.mdr_plan.specs.TypeTexts.{IsPointerText}
use Rattle.mdr_plan.specs.TypeReading.{is_empty, type_at, behind, type_of, pointer_of}
use Rattle.mdr_plan.proofs.TypesAgain.{after, again}
use Rattle.mdr_plan.proofs.TypesSound.{bind_ok, when_ok, some_same, type_took}

pub both : (a b : Bool) → IsTrue (a && b) → IsTrue a × IsTrue b
both true b h = (refl, h)
both false b h = let q : false ≡ true = h in absurd (Prim.cc)

pub empty_is : (bytes : List ℕ) → IsTrue (is_empty bytes) → bytes ≡ []
empty_is [] h = refl
empty_is (b ∷ bytes) h = let q : false ≡ true = h in absurd (Prim.cc)

pub pointer_is : (names : Naming) (bytes : List ℕ) (t : Ty) → pointer_of names bytes ≡ Some t → IsPointerText names t bytes
unfolding pointer_of
pointer_is names bytes t e =
    let a = bind_ok (type_at (length bytes) names bytes) _ t e in
    let w = when_ok (is_pointer a.0.0 && is_empty a.0.1) (Some a.0.0) t a.2 in
    let b = both (is_pointer a.0.0) (is_empty a.0.1) w.0 in
    let took = type_took (length bytes) names bytes a.0.0 a.0.1 a.1 in
    let same : bytes ≡ took.whole.bytes = took.same ∙ ap (λ r. took.whole.bytes ++ r) (empty_is a.0.1 b.1) ∙ append-nil took.whole.bytes in
    subst (λ u. IsPointerText names u bytes) (some_same a.0.0 t w.1) (record { pointer = took.pointer; whole = took.whole; written = took.written; points = b.0; same = sym same })

nothing_after : (s : Bool) (t p : Ty) → after s t p [] ≡ (t, [])
unfolding behind
nothing_after true t p = refl
nothing_after false t p = refl

pointer_at : (names : Naming) (bytes : List ℕ) (t : Ty) → type_at (length bytes) names bytes ≡ Some (t, []) → IsTrue (is_pointer t) → pointer_of names bytes ≡ Some t
unfolding pointer_of
pointer_at names bytes t e p = rw (e, p) refl

pub pointer_again : (names : Naming) (bytes : List ℕ) (t : Ty) → IsPointerText names t bytes → pointer_of names bytes ≡ Some t
pointer_again names bytes t h =
    let le : length h.whole.bytes ≤ length bytes = rw h.same (omega arith) in
    let read : type_at (length bytes) names (h.whole.bytes ++ []) ≡ Some (t, []) = again names t h.pointer h.whole (length bytes) [] h.written le (record { none = refl }) ∙ ap (λ q. Some q) (nothing_after h.whole.starred t h.pointer) in
    pointer_at names bytes t (ap (type_at (length bytes) names) (sym h.same ∙ sym (append-nil h.whole.bytes)) ∙ read) h.points

pub any_type_is : (bytes : List ℕ) (t : Ty) → type_of any_struct bytes ≡ Some t → IsTypeText bytes
unfolding type_of
any_type_is bytes t e =
    let a = bind_ok (type_at (length bytes) any_struct bytes) _ t e in
    let w = when_ok (is_empty a.0.1) (Some a.0.0) t a.2 in
    let took = type_took (length bytes) any_struct bytes a.0.0 a.0.1 a.1 in
    let same : bytes ≡ took.whole.bytes = took.same ∙ ap (λ r. took.whole.bytes ++ r) (empty_is a.0.1 w.0) ∙ append-nil took.whole.bytes in
    record { ty = a.0.0; pointer = took.pointer; whole = took.whole; written = took.written; same = sym same }

type_at_all : (bytes : List ℕ) (t : Ty) → type_at (length bytes) any_struct bytes ≡ Some (t, []) → type_of any_struct bytes ≡ Some t
unfolding type_of
type_at_all bytes t e = rw e refl

pub any_type_again : (bytes : List ℕ) (h : IsTypeText bytes) → type_of any_struct bytes ≡ Some h.ty
any_type_again bytes h =
    let le : length h.whole.bytes ≤ length bytes = rw h.same (omega arith) in
    let read : type_at (length bytes) any_struct (h.whole.bytes ++ []) ≡ Some (h.ty, []) = again any_struct h.ty h.pointer h.whole (length bytes) [] h.written le (record { none = refl }) ∙ ap (λ q. Some q) (nothing_after h.whole.starred h.ty h.pointer) in
    type_at_all bytes h.ty (ap (type_at (length bytes) any_struct) (sym h.same ∙ sym (append-nil h.whole.bytes)) ∙ read)
