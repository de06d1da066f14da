-- The rule of `c ? a : b` looks at no place.
use Rattle.mdr_binary.specs.Choices.{arms_type, choice_as, choice_by, choice_of, choice_rule}
use Rattle.mdr_core.specs.declared.place.Place.{Place}
use Rattle.mdr_core.specs.declared.types.Ty.{Ty}
use Rattle.mdr_faults.specs.Faults.{Checked}
use Rattle.mdr_operand.specs.declared.operand.Operand.{Operand}
use Rattle.mdr_placeless.proofs.Combined.{after_alike, both_alike, needed_alike}
use Rattle.mdr_placeless.proofs.Operands.{conditions, conversions, values_at}
use Rattle.mdr_placeless.specs.Alike.{AreAlike}
use Rattle.mdr_placeless.specs.Alike.AreAlike.{Rights}
use Rattle.mdr_rich.specs.declared.code.Expr.{Expr}

module _ (p q : Place) where
  choices_as : (c : Expr) (x y : Operand) (t : Ty) → AreAlike (choice_as p c x y t) (choice_as q c x y t)
  unfolding choice_as
  choices_as c x y t = both_alike (conversions p q t x) (conversions p q t y) (λ e f. values_at p q t _)

  choices_by : (x y : Operand) (c : Expr) → AreAlike (choice_by p x y c) (choice_by q x y c)
  unfolding choice_by
  choices_by x y c = after_alike (needed_alike p q (arms_type x y)) (choices_as c x y)

  choices_of : (w : Operand) (arms : Operand × Operand) → AreAlike (choice_of p w arms) (choice_of q w arms)
  unfolding choice_of
  choices_of w arms = after_alike (conditions p q w) (choices_by arms.0 arms.1)

  pub choice_rules : {c c' a a' b b' : Checked Operand} → AreAlike c c' → AreAlike a a' → AreAlike b b' → AreAlike (choice_rule p c a b) (choice_rule q c' a' b')
  unfolding choice_rule
  choice_rules h k l = both_alike h (both_alike k l (λ x y. Rights _)) choices_of
