-- What `c ? a : b` comes to is known (C99 6.5.15).
use Rattle.std.specs.Prelude.{◌≡◌, Bool, true, false, List, length, Option, Some, None}
use Rattle.std.proofs.Common.{refl, subst}
use Rattle.std.proofs.lemmas.Option.{none-some, same_Some}
use Rattle.mdr_rich.specs.declared.code.Expr.{Expr}
use Rattle.mdr_rich.specs.declared.code.Expr.TheVariants as expr
use Rattle.mdr_core.specs.declared.place.Place.{Place}
use Rattle.mdr_core.specs.declared.program.Program.{Program}
use Rattle.mdr_core.specs.declared.types.Ty.{Ty, out-Ty}
use Rattle.mdr_core.specs.declared.types.Ty.TheOpen.{Ty-F}
use Rattle.mdr_core.specs.Conversions.{common_kind}
use Rattle.mdr_core.specs.Layout.{chosen}
use Rattle.mdr_core.specs.Typing.{Slot, IsCondition}
use Rattle.mdr_rich.specs.Folds.{term_of}
use Rattle.mdr_rich.specs.Typing.{Has, IsScalar}
use Rattle.mdr_rich.proofs.Coded.{cond_is}
use Rattle.mdr_faults.specs.Alike.{is_alike}
use Rattle.mdr_faults.specs.Faults.{Checked, Right, both}
use Rattle.mdr_operand.specs.declared.operand.Operand.{Operand}
use Rattle.mdr_operand.specs.declared.room.LocalName.{LocalName}
use Rattle.mdr_operand.specs.Converting.{converted_at}
use Rattle.mdr_operand.specs.Forms.{condition_at, is_null, needed, value_at, value_type}
use Rattle.mdr_operand.specs.Written.{Written}
use Rattle.mdr_binary.specs.Binaries.{are_numbers}
use Rattle.mdr_binary.specs.Choices.{joined_by, joined_type, beside_null, pointers_type, arms_type, choice_as, choice_by, choice_of, paired, choice_rule}
use Rattle.mdr_sound.specs.Operands.{IsKnown}
use Rattle.mdr_sound.proofs.Converted.{converted_known}
use Rattle.mdr_sound.proofs.Layers.{sort_int, sort_void_ptr}
use Rattle.mdr_sound.proofs.Rights.{after_right, both_right, needed_right, same_right}
use Rattle.mdr_sound.proofs.Values.{of_term, no_literal, condition_known, type_known, valued_known}

either_chosen : {A C : Type 0} (b : Bool) (x y z : A) → (x ≡ z → C) → (y ≡ z → C) → chosen b x y ≡ z → C
either_chosen true x y z h i e = h e
either_chosen false x y z h i e = i e

module _ (program : Program) where
  first_or_none : (b : Bool) (t r : Ty) → IsScalar program t → chosen b (Some t) None ≡ Some r → IsScalar program r
  first_or_none true t r h q = subst (IsScalar program) (same_Some _ _ q) h
  first_or_none false t r h q = absurd (none-some r q)

  joined_by_known : (f g : Ty-F Ty) (t u r : Ty) → IsScalar program t → IsScalar program u → joined_by f g t u ≡ Some r → IsScalar program r
  joined_by_known (Ty-F.Int k) (Ty-F.Int l) t u r h i q = subst (IsScalar program) (same_Some _ _ q) (sort_int (length program.structs) (common_kind k l))
  joined_by_known Ty-F.VoidPtr (Ty-F.Ptr b) t u r h i q = subst (IsScalar program) (same_Some _ _ q) h
  joined_by_known (Ty-F.Ptr a) Ty-F.VoidPtr t u r h i q = subst (IsScalar program) (same_Some _ _ q) i
  joined_by_known f g t u r h i q = first_or_none (is_alike t u) t r h q

  joined_known : (o n : Option Ty) (r : Ty) → ((t : Ty) → o ≡ Some t → IsScalar program t) → ((u : Ty) → n ≡ Some u → IsScalar program u) → joined_type o n ≡ Some r → IsScalar program r
  joined_known None n r h i q = absurd (none-some r q)
  joined_known (Some t) None r h i q = absurd (none-some r q)
  joined_known (Some t) (Some u) r h i q = joined_by_known (out-Ty t) (out-Ty u) t u r (h t refl) (i u refl) q

module _ (program : Program) (slots : List Slot) (names : List LocalName) (w : Written) (p : Place) where
  -- the type of the arms
  module _ (u v : Written) (x y : Operand) (one : IsKnown program slots names u x) (other : IsKnown program slots names v y) (t : Ty) where
    both_known : joined_type (value_type x) (value_type y) ≡ Some t → IsScalar program t
    both_known q = joined_known program (value_type x) (value_type y) t (λ r. type_known program slots names u x r one) (λ r. type_known program slots names v y r other) q

    beside_known : beside_null x ≡ Some t → IsScalar program t
    beside_known q = either_chosen (is_null x) _ _ _ (λ e. subst (IsScalar program) (same_Some _ _ e) (sort_void_ptr (length program.structs))) (λ e. type_known program slots names u x t one e) q

    pointers_known : pointers_type x y ≡ Some t → IsScalar program t
    pointers_known q = either_chosen (is_null y) _ _ _ beside_known (λ e. either_chosen (is_null x) _ _ _ (λ d. type_known program slots names v y t other d) both_known e) q

    arms_known : arms_type x y ≡ Some t → IsScalar program t
    unfolding arms_type
    arms_known q = either_chosen (are_numbers x y) _ _ _ both_known pointers_known q

    -- the value
    choice_as_known : (c : Expr) (z : Operand) → IsCondition (Has program slots (term_of c)) → IsScalar program t → choice_as p c x y t ≡ Right z → IsKnown program slots names w z
    unfolding choice_as
    choice_as_known c z h f q =
        let b = both_right (converted_at p t x) (converted_at p t y) (λ e f. value_at p t (expr.Cond t c e f)) z q in
        let first = converted_known program slots names u p t x b.left b.first one f in
        let second = converted_known program slots names v p t y b.right b.second other f in
        valued_known program slots names w p t (expr.Cond t c b.left b.right) z
        (of_term program slots _ _ t (cond_is t c b.left b.right) (record { test = h; one = first; other = second; formed = f; is = refl }))
        (no_literal _ _ (cond_is t c b.left b.right) tt) (λ s. f) b.made

  pub choice_known : (k u v : Written) (c a b : Checked Operand) (z : Operand) → ((x : Operand) → c ≡ Right x → IsKnown program slots names k x) → ((x : Operand) → a ≡ Right x → IsKnown program slots names u x)
      → ((y : Operand) → b ≡ Right y → IsKnown program slots names v y) → choice_rule p c a b ≡ Right z → IsKnown program slots names w z
  unfolding choice_rule choice_of choice_by
  choice_known k u v c a b z test one other q =
      let d = both_right c (both a b paired) (choice_of p) z q in
      let arms = both_right a b paired d.right d.second in
      let same = same_right _ _ arms.made in
      let e = after_right (condition_at p d.left) (choice_by p d.right.0 d.right.1) z d.made in
      let t = after_right (needed p (arms_type d.right.0 d.right.1)) (choice_as p e.value d.right.0 d.right.1) z e.made in
      let left = subst (λ x. IsKnown program slots names u x.0) same (one arms.left arms.first) in
      let right = subst (λ x. IsKnown program slots names v x.1) same (other arms.right arms.second) in
      let formed = arms_known u v d.right.0 d.right.1 left right t.value (needed_right p (arms_type d.right.0 d.right.1) t.value t.right) in
      choice_as_known u v d.right.0 d.right.1 left right t.value e.value z (condition_known program slots names k p d.left e.value (test d.left d.first) e.right) formed t.made
