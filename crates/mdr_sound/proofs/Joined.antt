-- What an operator between two operands gives is known (C99 6.5.5 to 6.5.14).
use Rattle.std.specs.Prelude.{◌≡◌, List, Option, Some, None}
use Rattle.std.proofs.Common.{refl, subst}
use Rattle.mdr_core.specs.declared.kind.Kind.TheVariants.{S32}
use Rattle.mdr_core.specs.declared.place.Place.{Place}
use Rattle.mdr_core.specs.declared.program.Program.{Program}
use Rattle.mdr_core.specs.declared.types.Ty.TheVariants as type
use Rattle.mdr_core.specs.Typing.{Slot}
use Rattle.mdr_rich.proofs.Coded as coded
use Rattle.mdr_faults.specs.declared.scope.Scope.{Scope}
use Rattle.mdr_faults.specs.Faults.{Checked, Right}
use Rattle.mdr_operand.specs.declared.operand.Operand.{Operand}
use Rattle.mdr_operand.specs.declared.operand.Scalar.{Scalar}
use Rattle.mdr_operand.specs.declared.operator.BinaryOperator.{BinaryOperator}
use Rattle.mdr_operand.specs.declared.operator.BinaryOperator.TheVariants as binary
use Rattle.mdr_operand.specs.declared.room.LocalName.{LocalName}
use Rattle.mdr_operand.specs.Forms.{expression_of, scalar_at}
use Rattle.mdr_operand.specs.Written.{Written}
use Rattle.mdr_binary.specs.Binaries.{both_true, either_true, conjunction, disjunction, binary_of, binary_by, binary_rule}
use Rattle.mdr_sound.specs.Operands.{IsKnownValue, IsKnown}
use Rattle.mdr_sound.proofs.Calculated.{calculation_known}
use Rattle.mdr_sound.proofs.Compared.{comparison_known}
use Rattle.mdr_sound.proofs.Rights.{not_right, same_right, both_right}
use Rattle.mdr_sound.proofs.Values.{of_term, scalar_known, value_tested}

module _ (program : Program) (slots : List Slot) (names : List LocalName) (w : Written) where
  -- ---- `&&` and `||`

  both_true_known : (u v : Scalar) → IsKnownValue program slots u → IsKnownValue program slots v → IsKnown program slots names w (both_true u v)
  both_true_known u v h i = of_term program slots _ _ (type.Int S32) (coded.and_is (expression_of u) (expression_of v)) (record { left = value_tested program slots u h; right = value_tested program slots v i; is = refl })

  either_true_known : (u v : Scalar) → IsKnownValue program slots u → IsKnownValue program slots v → IsKnown program slots names w (either_true u v)
  either_true_known u v h i = of_term program slots _ _ (type.Int S32) (coded.or_is (expression_of u) (expression_of v)) (record { left = value_tested program slots u h; right = value_tested program slots v i; is = refl })

  module _ (scope : Scope) (p : Place) (u v : Written) where
    conjunction_known : (x y z : Operand) → IsKnown program slots names u x → IsKnown program slots names v y → conjunction p x y ≡ Right z → IsKnown program slots names w z
    unfolding conjunction
    conjunction_known x y z h i e =
        let b = both_right (scalar_at p x) (scalar_at p y) (λ v w. Right (both_true v w)) z e in
        subst (IsKnown program slots names w) (same_right _ _ b.made)
        (both_true_known b.left b.right (scalar_known program slots names u p x b.left h b.first) (scalar_known program slots names v p y b.right i b.second))

    disjunction_known : (x y z : Operand) → IsKnown program slots names u x → IsKnown program slots names v y → disjunction p x y ≡ Right z → IsKnown program slots names w z
    unfolding disjunction
    disjunction_known x y z h i e =
        let b = both_right (scalar_at p x) (scalar_at p y) (λ v w. Right (either_true v w)) z e in
        subst (IsKnown program slots names w) (same_right _ _ b.made)
        (either_true_known b.left b.right (scalar_known program slots names u p x b.left h b.first) (scalar_known program slots names v p y b.right i b.second))

    -- ---- all of them

    binary_of_known : (op : BinaryOperator) (x y z : Operand) → IsKnown program slots names u x → IsKnown program slots names v y → binary_of scope p op x y ≡ Right z → IsKnown program slots names w z
    unfolding binary_of
    binary_of_known (binary.Calculate op) x y z h i e = calculation_known program slots names w scope p u v op x y z h i e
    binary_of_known (binary.Compare op) x y z h i e = comparison_known program slots names w p u v x y h i op z e
    binary_of_known binary.And x y z h i e = conjunction_known x y z h i e
    binary_of_known binary.Or x y z h i e = disjunction_known x y z h i e

    binary_by_known : (op : Option BinaryOperator) (x y z : Operand) → IsKnown program slots names u x → IsKnown program slots names v y → binary_by scope p op x y ≡ Right z → IsKnown program slots names w z
    unfolding binary_by
    binary_by_known None x y z h i e = not_right _ z e
    binary_by_known (Some op) x y z h i e = binary_of_known op x y z h i e

    pub binary_known : (op : Option BinaryOperator) (a b : Checked Operand) (z : Operand) → ((x : Operand) → a ≡ Right x → IsKnown program slots names u x) → ((y : Operand) → b ≡ Right y → IsKnown program slots names v y) → binary_rule scope p op a b ≡ Right z → IsKnown program slots names w z
    unfolding binary_rule
    binary_known op a b z h i e =
        let c = both_right a b (binary_by scope p op) z e in
        binary_by_known op c.left c.right z (h c.left c.first) (i c.right c.second) c.made
