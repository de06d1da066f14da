-- The rules of operators between two operands look at no place.
use Rattle.mdr_binary.specs.Binaries.{address_at, are_numbers, binary_by, binary_of, binary_rule, calculation_of, comparison_of, conjunction, difference, disjunction, distance_at, equality, equality_of_values, has_null, have_one_object, have_one_type, have_one_void, is_equality, less, moved_by, moved_pointer, null_compared, null_or_address, numbers_calculated, numbers_compared, order, order_of_values, pointers_calculated, pointers_compared, pointers_equal, pointers_ordered, sum, voids_equal}
use Rattle.mdr_core.specs.declared.place.Place.{Place}
use Rattle.mdr_faults.specs.Alike.{is_alike}
use Rattle.mdr_faults.specs.Faults.{Checked}
use Rattle.mdr_faults.specs.declared.scope.Scope.{Scope}
use Rattle.mdr_operand.specs.Forms.{is_null, is_number}
use Rattle.mdr_operand.specs.declared.operand.Integer.{Integer}
use Rattle.mdr_operand.specs.declared.operand.Operand.{Operand}
use Rattle.mdr_operand.specs.declared.operand.Pointer.{Pointer}
use Rattle.mdr_operand.specs.declared.operand.Scalar.{Scalar}
use Rattle.mdr_operand.specs.declared.operator.BinaryOperator.{BinaryOperator}
use Rattle.mdr_placeless.proofs.Combined.{after_alike, both_alike, chosen_alike, chosen_by, needed_alike}
use Rattle.mdr_placeless.proofs.Operands.{integers, pointers, scalars}
use Rattle.mdr_placeless.proofs.Postfixes.{complete_alike}
use Rattle.mdr_placeless.proofs.Scopes.{AreScopes}
use Rattle.mdr_placeless.specs.Alike.{AreAlike}
use Rattle.mdr_placeless.specs.Alike.AreAlike.{Rights, Wrongs}
use Rattle.std.proofs.Common.{Bool, None, Option, Some, ap, false, true, ◌&&◌}
use Rattle.mdr_binary.specs.Binaries.{address_by}
use Rattle.mdr_core.specs.declared.code.BinOp.TheVariants.{Add, Sub, Mul, Div, Rem, Shl, Shr, BitAnd, BitOr, BitXor}
use Rattle.mdr_core.specs.declared.code.BinOp.{BinOp}
use Rattle.mdr_core.specs.declared.code.RelOp.{RelOp}
use Rattle.mdr_operand.specs.declared.operator.BinaryOperator.TheVariants as binary

module _ {s t : Scope} (a : AreScopes s t) (p q : Place) where
  -- ---- numbers, and pointers that are moved

  calculations : (op : BinOp) (x y : Operand) → AreAlike (numbers_calculated op p x y) (numbers_calculated op q x y)
  unfolding numbers_calculated
  calculations op x y = both_alike (integers p q x) (integers p q y) (λ m n. Rights _)

  moves : (back : Bool) (x : Pointer) (n : Integer) → AreAlike (moved_pointer s p back x n) (moved_pointer t q back x n)
  unfolding moved_pointer
  moves back x n = chosen_by _ _ (complete_alike a x.ty) (Rights _) (Wrongs _ _)

  moves_by : (back : Bool) (x y : Operand) → AreAlike (moved_by s p back x y) (moved_by t q back x y)
  unfolding moved_by
  moves_by back x y = both_alike (pointers p q x) (integers p q y) (moves back)

  distances : (x y : Pointer) → AreAlike (distance_at s p x y) (distance_at t q x y)
  unfolding distance_at
  distances x y = chosen_by _ _ (ap (λ b. is_alike x.ty y.ty && b) (complete_alike a x.ty)) (Rights _) (Wrongs _ _)

  differences : (x y : Operand) → AreAlike (difference s p x y) (difference t q x y)
  unfolding difference
  differences x y = both_alike (pointers p q x) (pointers p q y) distances

  sums : (x y : Operand) → AreAlike (sum s p x y) (sum t q x y)
  unfolding sum
  sums x y = chosen_alike (is_number y) (moves_by false x y) (moves_by false y x)

  rests : (x y : Operand) → AreAlike (less s p x y) (less t q x y)
  unfolding less
  rests x y = chosen_alike (is_number y) (moves_by true x y) (differences x y)

  pointer_calculations : (op : BinOp) (x y : Operand) → AreAlike (pointers_calculated s p op x y) (pointers_calculated t q op x y)
  unfolding pointers_calculated
  pointer_calculations Add x y = sums x y
  pointer_calculations Sub x y = rests x y
  pointer_calculations Mul x y = Wrongs _ _
  pointer_calculations Div x y = Wrongs _ _
  pointer_calculations Rem x y = Wrongs _ _
  pointer_calculations Shl x y = Wrongs _ _
  pointer_calculations Shr x y = Wrongs _ _
  pointer_calculations BitAnd x y = Wrongs _ _
  pointer_calculations BitOr x y = Wrongs _ _
  pointer_calculations BitXor x y = Wrongs _ _

  pub calculation_rules : (op : BinOp) (x y : Operand) → AreAlike (calculation_of s p op x y) (calculation_of t q op x y)
  unfolding calculation_of
  calculation_rules op x y = chosen_alike (are_numbers x y) (calculations op x y) (pointer_calculations op x y)

  -- ---- comparisons

  comparisons : (op : RelOp) (x y : Operand) → AreAlike (numbers_compared op p x y) (numbers_compared op q x y)
  unfolding numbers_compared
  comparisons op x y = both_alike (integers p q x) (integers p q y) (λ m n. Rights _)

  addresses_at : (x : Operand) → AreAlike (address_at p x) (address_at q x)
  unfolding address_at
  addresses_at x = after_alike (scalars p q x) (λ v. needed_alike p q (address_by v))

  nulls_or : (x : Operand) → AreAlike (null_or_address p x) (null_or_address q x)
  unfolding null_or_address
  nulls_or x = chosen_alike (is_null x) (Rights _) (addresses_at x)

  null_comparisons : (op : RelOp) (x y : Operand) → AreAlike (null_compared op p x y) (null_compared op q x y)
  unfolding null_compared
  null_comparisons op x y = both_alike (nulls_or x) (nulls_or y) (λ e f. Rights _)

  void_equalities : (op : RelOp) (v w : Scalar) → AreAlike (voids_equal op p v w) (voids_equal op q v w)
  unfolding voids_equal
  void_equalities op v w = chosen_alike (have_one_void v w) (Rights _) (Wrongs _ _)

  pointer_equalities : (op : RelOp) (v w : Scalar) → AreAlike (pointers_equal op p v w) (pointers_equal op q v w)
  unfolding pointers_equal
  pointer_equalities op v w = chosen_alike (have_one_type v w) (Rights _) (void_equalities op v w)

  equalities_of : (op : RelOp) (x y : Operand) → AreAlike (equality_of_values op p x y) (equality_of_values op q x y)
  unfolding equality_of_values
  equalities_of op x y = both_alike (scalars p q x) (scalars p q y) (pointer_equalities op)

  equalities : (op : RelOp) (x y : Operand) → AreAlike (equality op p x y) (equality op q x y)
  unfolding equality
  equalities op x y = chosen_alike (has_null x y) (null_comparisons op x y) (equalities_of op x y)

  pointer_orders : (op : RelOp) (v w : Scalar) → AreAlike (pointers_ordered op p v w) (pointers_ordered op q v w)
  unfolding pointers_ordered
  pointer_orders op v w = chosen_alike (have_one_object v w) (Rights _) (Wrongs _ _)

  orders_of : (op : RelOp) (x y : Operand) → AreAlike (order_of_values op p x y) (order_of_values op q x y)
  unfolding order_of_values
  orders_of op x y = both_alike (scalars p q x) (scalars p q y) (pointer_orders op)

  orders : (op : RelOp) (x y : Operand) → AreAlike (order op p x y) (order op q x y)
  unfolding order
  orders op x y = chosen_alike (has_null x y) (Wrongs _ _) (orders_of op x y)

  pointer_comparisons : (op : RelOp) (x y : Operand) → AreAlike (pointers_compared op p x y) (pointers_compared op q x y)
  unfolding pointers_compared
  pointer_comparisons op x y = chosen_alike (is_equality op) (equalities op x y) (orders op x y)

  comparison_rules : (op : RelOp) (x y : Operand) → AreAlike (comparison_of op p x y) (comparison_of op q x y)
  unfolding comparison_of
  comparison_rules op x y = chosen_alike (are_numbers x y) (comparisons op x y) (pointer_comparisons op x y)

  -- ---- `&&` and `||`, and all of them

  conjunctions : (x y : Operand) → AreAlike (conjunction p x y) (conjunction q x y)
  unfolding conjunction
  conjunctions x y = both_alike (scalars p q x) (scalars p q y) (λ v w. Rights _)

  disjunctions : (x y : Operand) → AreAlike (disjunction p x y) (disjunction q x y)
  unfolding disjunction
  disjunctions x y = both_alike (scalars p q x) (scalars p q y) (λ v w. Rights _)

  binaries : (op : BinaryOperator) (x y : Operand) → AreAlike (binary_of s p op x y) (binary_of t q op x y)
  unfolding binary_of
  binaries (binary.Calculate op) x y = calculation_rules op x y
  binaries (binary.Compare op) x y = comparison_rules op x y
  binaries binary.And x y = conjunctions x y
  binaries binary.Or x y = disjunctions x y

  binaries_by : (op : Option BinaryOperator) (x y : Operand) → AreAlike (binary_by s p op x y) (binary_by t q op x y)
  unfolding binary_by
  binaries_by None x y = Wrongs _ _
  binaries_by (Some op) x y = binaries op x y

  pub binary_rules : (op : Option BinaryOperator) {c c' d d' : Checked Operand} → AreAlike c c' → AreAlike d d' → AreAlike (binary_rule s p op c d) (binary_rule t q op c' d')
  unfolding binary_rule
  binary_rules op h k = both_alike h k (binaries_by op)
