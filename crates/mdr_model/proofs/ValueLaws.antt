-- Laws of values: which are the same, and that a value of an integer or a lock is no pointer.
use Rattle.std.proofs.Common.{◌≡◌, ℕ, zero, suc, true, false, ◌&&◌, refl, sym, ◌∙◌, ap}
use Rattle.std.specs.Prelude.{◌==◌}
use Rattle.std.proofs.lemmas.Bool.Decides.{Decides-int_eq}
use Rattle.mdr_core.specs.declared.kind.Kind.{Kind}
use Rattle.mdr_core.specs.declared.kind.Kind.TheVariants.{U8, U16, U32, U64, S8, S16, S32, S64}
use Rattle.mdr_core.specs.declared.value.LockState.{LockState}
use Rattle.mdr_core.specs.declared.value.LockState.TheVariants.{Free, Spin, Sleep}
use Rattle.mdr_core.specs.Kinds.{kind_number, is_same_kind}
use Rattle.mdr_meaning.specs.declared.wire.Wire.{Wire}
use Rattle.mdr_meaning.specs.declared.wire.Wire.TheVariants as wire
use Rattle.mdr_meaning.specs.declared.wire.WireView.{WireView}
use Rattle.mdr_model.specs.Values.{is_same, is_same_view, lock_number}
use Rattle.mdr_model.proofs.Tests.{is_same_number, and_left, and_right}

-- ---- kinds and lock states by their numbers

abbrev kind_of_number : ℕ → Kind
kind_of_number zero = U8
kind_of_number (suc zero) = U16
kind_of_number (suc (suc zero)) = U32
kind_of_number (suc (suc (suc zero))) = U64
kind_of_number (suc (suc (suc (suc zero)))) = S8
kind_of_number (suc (suc (suc (suc (suc zero))))) = S16
kind_of_number (suc (suc (suc (suc (suc (suc zero)))))) = S32
kind_of_number (suc (suc (suc (suc (suc (suc (suc n))))))) = S64

kind_again : (k : Kind) → kind_of_number (kind_number k) ≡ k
kind_again U8 = refl
kind_again U16 = refl
kind_again U32 = refl
kind_again U64 = refl
kind_again S8 = refl
kind_again S16 = refl
kind_again S32 = refl
kind_again S64 = refl

pub same_kind : (k l : Kind) → is_same_kind k l ≡ true → k ≡ l
same_kind k l e = sym (kind_again k) ∙ ap kind_of_number (is_same_number _ _ e) ∙ kind_again l

abbrev lock_of_number : ℕ → LockState
lock_of_number zero = Free
lock_of_number (suc zero) = Spin
lock_of_number (suc (suc n)) = Sleep

lock_again : (s : LockState) → lock_of_number (lock_number s) ≡ s
lock_again Free = refl
lock_again Spin = refl
lock_again Sleep = refl

-- ---- values that are the same are equal

same_view : (p q : WireView) → is_same_view p q ≡ true → p ≡ q
unfolding is_same_view
same_view p q e =
    let abcd : (p.serial == q.serial && p.first == q.first && p.ty == q.ty && p.count == q.count) ≡ true = and_left _ _ e in
    let abc : (p.serial == q.serial && p.first == q.first && p.ty == q.ty) ≡ true = and_left _ _ abcd in
    let ab : (p.serial == q.serial && p.first == q.first) ≡ true = and_left _ _ abc in
    let serial : p.serial ≡ q.serial = is_same_number _ _ (and_left _ _ ab) in
    let first : p.first ≡ q.first = is_same_number _ _ (and_right (p.serial == q.serial) _ ab) in
    let type : p.ty ≡ q.ty = is_same_number _ _ (and_right (p.serial == q.serial && p.first == q.first) _ abc) in
    let count : p.count ≡ q.count = is_same_number _ _ (and_right (p.serial == q.serial && p.first == q.first && p.ty == q.ty) _ abcd) in
    let index : p.index ≡ q.index = is_same_number _ _ (and_right (p.serial == q.serial && p.first == q.first && p.ty == q.ty && p.count == q.count) _ e) in
    λ i. record { serial = serial i; first = first i; ty = type i; count = count i; index = index i }

differ : {A : Type 0} → false ≡ true → A
differ h = absurd (of h)
  where
    of : false ≡ true → ⊥
    of e = cc

pub same_value : (v u : Wire) → is_same v u ≡ true → v ≡ u
unfolding is_same
same_value (wire.Int k n) (wire.Int l m) e =
    let kind : k ≡ l = same_kind k l (and_left _ _ e) in
    let number : n ≡ m = (Decides-int_eq n m).0 (and_right (is_same_kind k l) _ e) in
    λ i. wire.Int (kind i) (number i)
same_value wire.Null wire.Null e = refl
same_value (wire.Ptr p) (wire.Ptr q) e = ap wire.Ptr (same_view p q e)
same_value wire.Dead wire.Dead e = refl
same_value (wire.Fn f) (wire.Fn g) e = ap wire.Fn (is_same_number f g e)
same_value (wire.Lock s) (wire.Lock t) e = ap wire.Lock (sym (lock_again s) ∙ ap lock_of_number (is_same_number _ _ e) ∙ lock_again t)
same_value wire.NoValue wire.NoValue e = refl
same_value _ _ e = differ e
