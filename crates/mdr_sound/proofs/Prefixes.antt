-- Prefix forms of what is known (C99 6.5.3).
use Rattle.std.specs.Prelude.{◌≡◌, ◌⊎◌, ℕ, List, Option, Some, None}
use Rattle.std.proofs.Common.{inl, inr, refl, ap, sym, subst}
use Rattle.mdr_rich.specs.declared.code.Expr.{Expr}
use Rattle.mdr_rich.specs.declared.code.Expr.TheVariants as expr
use Rattle.mdr_rich.specs.declared.code.Lval.{Lval}
use Rattle.mdr_rich.specs.declared.code.Lval.TheVariants as lval
use Rattle.mdr_core.specs.declared.kind.Kind.TheVariants.{S32}
use Rattle.mdr_core.specs.declared.place.Place.{Place}
use Rattle.mdr_core.specs.declared.program.Program.{Program}
use Rattle.mdr_core.specs.declared.types.Ty.{Ty}
use Rattle.mdr_core.specs.declared.types.Ty.TheVariants as type
use Rattle.mdr_core.specs.declared.value.Value.TheVariants as value
use Rattle.mdr_core.specs.Conversions.{promoted}
use Rattle.mdr_rich.specs.Folds.{lvalue_of}
use Rattle.mdr_core.specs.Typing.{Slot, One}
use Rattle.mdr_rich.specs.Typing.{Designates, HasAddress}
use Rattle.mdr_rich.proofs.Coded.{lit_is, neg_is, flip_is, not_is, deref_is}
use Rattle.mdr_faults.specs.Faults.{Checked, Right}
use Rattle.mdr_operand.specs.declared.operand.Operand.{Operand}
use Rattle.mdr_operand.specs.declared.operand.Operand.TheVariants as operand
use Rattle.mdr_operand.specs.declared.operator.PrefixOperator.{PrefixOperator}
use Rattle.mdr_operand.specs.declared.operator.PrefixOperator.TheVariants as prefix
use Rattle.mdr_operand.specs.declared.room.LocalName.{LocalName}
use Rattle.mdr_operand.specs.Forms.{integer_at, condition_at, pointer_at, at_kind, truth, promoted_number, negated_number, flipped_number, address, object_address, target_object, promotion_at, negation_at, flip_at, not_at, target_at, prefix_of, prefix_by, prefix_rule}
use Rattle.mdr_operand.specs.Signs.{prefix_operator}
use Rattle.mdr_operand.specs.Written.{Written}
use Rattle.mdr_sound.specs.Knowing.{TakesNoSlot}
use Rattle.mdr_sound.specs.Operands.{IsPointer, IsInSlot, IsKnownObject, IsKnown}
use Rattle.mdr_sound.proofs.Addresses.{not_in_slot, address_of_known}
use Rattle.mdr_sound.proofs.Rights.{after_right, same_right, not_right}
use Rattle.mdr_sound.proofs.Values.{of_term, integer_known, condition_known, pointer_known, at_kind_known}

module _ (program : Program) (slots : List Slot) (names : List LocalName) where
  -- ---- what a pointer names

  pub deref_known : (w : Written) (e : Expr) (t : Ty) → IsPointer program slots e t → IsKnown program slots names w (operand.Object (lval.Deref e) t)
  deref_known w e t h = record {
    designates = subst (λ x. Designates program slots x (One t)) (sym (deref_is e)) (record { type = t; pointer = h.value; is = refl }, h.no_literal);
    formed = h.formed;
    kept = inl (subst HasAddress (sym (deref_is e)) tt);
  }

  -- ---- by operators. What is written is w, and its operand is v

  module _ (w v : Written) where
    promotion_known : (p : Place) (x y : Operand) → IsKnown program slots names v x → promotion_at p x ≡ Right y → IsKnown program slots names w y
    unfolding promotion_at promoted_number
    promotion_known p x y h q =
        let a = after_right (integer_at p x) (λ n. Right (promoted_number n)) y q in
        subst (IsKnown program slots names w) (same_right _ _ a.made)
        (at_kind_known program slots (promoted a.value.kind) a.value (integer_known program slots names v p x a.value h a.right))

    negation_known : (p : Place) (x y : Operand) → IsKnown program slots names v x → negation_at p x ≡ Right y → IsKnown program slots names w y
    unfolding negation_at negated_number
    negation_known p x y h q =
        let a = after_right (integer_at p x) (λ n. Right (negated_number n)) y q in
        let known = at_kind_known program slots (promoted a.value.kind) a.value (integer_known program slots names v p x a.value h a.right) in
        subst (IsKnown program slots names w) (same_right _ _ a.made)
        (of_term program slots _ _ (type.Int (promoted a.value.kind)) (neg_is (promoted a.value.kind) (at_kind (promoted a.value.kind) a.value)) (record { operand = known; is = refl }))

    flip_known : (p : Place) (x y : Operand) → IsKnown program slots names v x → flip_at p x ≡ Right y → IsKnown program slots names w y
    unfolding flip_at flipped_number
    flip_known p x y h q =
        let a = after_right (integer_at p x) (λ n. Right (flipped_number n)) y q in
        let known = at_kind_known program slots (promoted a.value.kind) a.value (integer_known program slots names v p x a.value h a.right) in
        subst (IsKnown program slots names w) (same_right _ _ a.made)
        (of_term program slots _ _ (type.Int (promoted a.value.kind)) (flip_is (promoted a.value.kind) (at_kind (promoted a.value.kind) a.value)) (record { operand = known; is = refl }))

    not_known : (p : Place) (x y : Operand) → IsKnown program slots names v x → not_at p x ≡ Right y → IsKnown program slots names w y
    unfolding not_at
    not_known p x y h q =
        let a = after_right (condition_at p x) (λ e. Right (truth (expr.Not e))) y q in
        subst (IsKnown program slots names w) (same_right _ _ a.made)
        (of_term program slots _ _ (type.Int S32) (not_is a.value) (record { operand = condition_known program slots names v p x a.value h a.right; is = refl }))

    target_known : (p : Place) (x y : Operand) → IsKnown program slots names v x → target_at p x ≡ Right y → IsKnown program slots names w y
    unfolding target_at
    target_known p x y h q =
        let a = after_right (pointer_at p x) (λ q. Right (target_object q)) y q in
        subst (IsKnown program slots names w) (same_right _ _ a.made) (deref_known w a.value.value a.value.ty (pointer_known program slots names v p x a.value h a.right))

    object_address_known : (l : Lval) (t : Ty) → (IsInSlot names v → ⊥) → IsKnownObject program slots names v l t → IsKnown program slots names w (object_address l t)
    object_address_known l t none h = address_of_known program slots l t h.designates (by h.kept) h.formed
      where
        by : {S : Type 0} → HasAddress (lvalue_of l) ⊎ (IsInSlot names v × S) → HasAddress (lvalue_of l)
        by (inl a) = a
        by (inr s) = absurd (none s.0)

    address_known : (p : Place) (x y : Operand) → (IsInSlot names v → ⊥) → IsKnown program slots names v x → address p x ≡ Right y → IsKnown program slots names w y
    unfolding address
    address_known p (operand.Value u) y none h q = not_right _ y q
    address_known p (operand.Zero k) y none h q = not_right _ y q
    address_known p operand.Null y none h q = not_right _ y q
    address_known p (operand.Object l t) y none h q = subst (IsKnown program slots names w) (same_right _ _ q) (object_address_known l t none h)
    address_known p (operand.Array l t n) y none h q = not_right _ y q
    address_known p (operand.Function f ts) y none h q = subst (IsKnown program slots names w) (same_right _ _ q) (record {
      value = of_term program slots _ _ (type.Fun ts) (lit_is (value.Fn f)) (h.func, h.names, sym h.types);
      formed = h.formed;
    })

    prefix_of_known : (p : Place) (op : PrefixOperator) (x y : Operand) → (op ≡ prefix.Address → IsInSlot names v → ⊥) → IsKnown program slots names v x → prefix_of p x op ≡ Right y → IsKnown program slots names w y
    unfolding prefix_of
    prefix_of_known p prefix.Promote x y none h q = promotion_known p x y h q
    prefix_of_known p prefix.Negate x y none h q = negation_known p x y h q
    prefix_of_known p prefix.Flip x y none h q = flip_known p x y h q
    prefix_of_known p prefix.Not x y none h q = not_known p x y h q
    prefix_of_known p prefix.Address x y none h q = address_known p x y (none refl) h q
    prefix_of_known p prefix.Target x y none h q = target_known p x y h q

    pub prefix_by_known : (p : Place) (o : Option PrefixOperator) (x y : Operand) → (o ≡ Some prefix.Address → IsInSlot names v → ⊥) → IsKnown program slots names v x → prefix_by p o x ≡ Right y → IsKnown program slots names w y
    prefix_by_known p None x y none h q = not_right _ y q
    prefix_by_known p (Some op) x y none h q = prefix_of_known p op x y (λ e. none (ap Some e)) h q

  -- an operator in front of what is known. No address of a slot is taken
  pub prefix_known : (p : Place) (op : List ℕ) (v : Written) (c : Checked Operand) (y : Operand) → TakesNoSlot names (Written.Prefix p op v)
      → ((x : Operand) → c ≡ Right x → IsKnown program slots names v x) → prefix_rule p (prefix_operator op) c ≡ Right y → IsKnown program slots names (Written.Prefix p op v) y
  unfolding prefix_rule
  prefix_known p op v c y none h q =
      let a = after_right c (prefix_by p (prefix_operator op)) y q in
      prefix_by_known (Written.Prefix p op v) v p (prefix_operator op) a.value y (λ e s. not_in_slot names p op v e none s) (h a.value a.right) a.made
