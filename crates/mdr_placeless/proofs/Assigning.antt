-- The rules of assignments, and of `++` and `--`, look at no place.
use Rattle.mdr_assign.specs.Assignments.{assigned_at, assigned_by, assignment_rule, bump_at, bump_by, bump_rule, compound_at, destination_at, is_compound, is_stepped_by, left_at, old_value, one, plain_at, scalar_object, step_rule, stepped_at, stepped_by, stepped_object, stepped_operand, stepped_place}
use Rattle.mdr_assign.specs.declared.assignment.Destination.{Destination}
use Rattle.mdr_core.specs.Layout.{chosen}
use Rattle.mdr_core.specs.Types.{is_scalar}
use Rattle.mdr_core.specs.declared.code.BinOp.{BinOp}
use Rattle.mdr_core.specs.declared.code.BinOp.TheVariants.{Add, Sub}
use Rattle.mdr_core.specs.declared.place.Place.{Place}
use Rattle.mdr_core.specs.declared.types.Ty.{Ty, out-Ty}
use Rattle.mdr_core.specs.declared.types.Ty.TheOpen.{Ty-F}
use Rattle.mdr_faults.specs.Faults.{Checked}
use Rattle.mdr_faults.specs.declared.scope.Scope.{Scope}
use Rattle.mdr_operand.specs.Forms.{is_active_operand}
use Rattle.mdr_operand.specs.declared.operand.Operand.{Operand}
use Rattle.mdr_operand.specs.declared.operand.Operand.TheVariants as operand
use Rattle.mdr_operand.specs.declared.operator.AssignmentOperator.{AssignmentOperator}
use Rattle.mdr_operand.specs.declared.operator.AssignmentOperator.TheVariants.{Plain, Compound}
use Rattle.mdr_placeless.proofs.Binaries.{calculation_rules}
use Rattle.mdr_placeless.proofs.Combined.{after_alike, both_alike, chosen_alike, chosen_by}
use Rattle.mdr_placeless.proofs.Operands.{conversions, values_at}
use Rattle.mdr_placeless.proofs.Postfixes.{complete_alike}
use Rattle.mdr_placeless.proofs.Scopes.{AreScopes}
use Rattle.mdr_placeless.specs.Alike.{AreAlike}
use Rattle.mdr_placeless.specs.Alike.AreAlike.{Rights, Wrongs}
use Rattle.mdr_rich.specs.declared.code.Lval.{Lval}
use Rattle.std.proofs.Common.{Bool, None, Option, Some, refl, ◌&&◌, ◌≡◌}

-- ---- the left side

module _ (p q : Place) where
  scalar_objects : (l : Lval) (u : Ty) → AreAlike (scalar_object p l u) (scalar_object q l u)
  unfolding scalar_object
  scalar_objects l u = chosen_alike (is_scalar u) (Rights _) (Wrongs _ _)

  pub destinations : (x : Operand) → AreAlike (destination_at p x) (destination_at q x)
  unfolding destination_at
  destinations (operand.Value v) = Wrongs _ _
  destinations (operand.Zero k) = Wrongs _ _
  destinations operand.Null = Wrongs _ _
  destinations (operand.Object l u) = scalar_objects l u
  destinations (operand.Array l u n) = Wrongs _ _
  destinations (operand.Function f us) = Wrongs _ _

  lefts : (op : Option AssignmentOperator) (x : Operand) → AreAlike (left_at p op x) (left_at q op x)
  unfolding left_at
  lefts op x = chosen_alike (is_compound op && is_active_operand x) (Wrongs _ _) (destinations x)

  plains : (d : Destination) (y : Operand) → AreAlike (plain_at p d y) (plain_at q d y)
  unfolding plain_at
  plains d y = after_alike (conversions p q d.ty y) (λ e. Rights _)

  bumps_by : (first : Bool) (up : Option Bool) (d : Destination) → AreAlike (bump_by p first up d) (bump_by q first up d)
  unfolding bump_by
  bumps_by first None d = Wrongs _ _
  bumps_by first (Some up) d = values_at p q d.ty _

-- ---- assignments

stepped_both : {s t : Scope} → AreScopes s t → (l : Ty-F Ty) → is_stepped_by s l ≡ is_stepped_by t l
stepped_both a (Ty-F.Int k) = refl
stepped_both a Ty-F.Lock = refl
stepped_both a (Ty-F.Struct n) = refl
stepped_both a (Ty-F.Ptr u) = complete_alike a u
stepped_both a Ty-F.VoidPtr = refl
stepped_both a (Ty-F.Fun us) = refl
stepped_both a Ty-F.Void = refl

module _ {s t : Scope} (a : AreScopes s t) (p q : Place) where
  compounds : (op : BinOp) (d : Destination) (y : Operand) → AreAlike (compound_at s p op d y) (compound_at t q op d y)
  unfolding compound_at
  compounds op d y = after_alike (calculation_rules a p q op (old_value d) y) (plains p q d)

  assignments_by : (op : Option AssignmentOperator) (d : Destination) (y : Operand) → AreAlike (assigned_by s p op d y) (assigned_by t q op d y)
  unfolding assigned_by
  assignments_by None d y = Wrongs _ _
  assignments_by (Some Plain) d y = plains p q d y
  assignments_by (Some (Compound op)) d y = compounds op d y

  assignments_at : (op : Option AssignmentOperator) (x y : Operand) → AreAlike (assigned_at s p op x y) (assigned_at t q op x y)
  unfolding assigned_at
  assignments_at op x y = after_alike (lefts p q op x) (λ d. assignments_by op d y)

  pub assignment_rules : (op : Option AssignmentOperator) {c c' d d' : Checked Operand} → AreAlike c c' → AreAlike d d' → AreAlike (assignment_rule s p op c d) (assignment_rule t q op c' d')
  unfolding assignment_rule
  assignment_rules op h k = both_alike h k (assignments_at op)

  -- ---- `++` and `--`

  stepped_objects : (l : Lval) (u : Ty) → AreAlike (stepped_object s p l u) (stepped_object t q l u)
  unfolding stepped_object
  stepped_objects l u = chosen_by _ _ (stepped_both a (out-Ty u)) (Rights _) (Wrongs _ _)

  stepped_operands : (x : Operand) → AreAlike (stepped_operand s p x) (stepped_operand t q x)
  stepped_operands (operand.Value v) = Wrongs _ _
  stepped_operands (operand.Zero k) = Wrongs _ _
  stepped_operands operand.Null = Wrongs _ _
  stepped_operands (operand.Object l u) = stepped_objects l u
  stepped_operands (operand.Array l u n) = Wrongs _ _
  stepped_operands (operand.Function f us) = Wrongs _ _

  stepped_places : (x : Operand) → AreAlike (stepped_place s p x) (stepped_place t q x)
  unfolding stepped_place
  stepped_places x = chosen_alike (is_active_operand x) (Wrongs _ _) (stepped_operands x)

  steps_by : (up : Option Bool) (d : Destination) → AreAlike (stepped_by s p up d) (stepped_by t q up d)
  unfolding stepped_by
  steps_by None d = Wrongs _ _
  steps_by (Some up) d = compounds (chosen up Add Sub) d one

  steps_at : (up : Option Bool) (x : Operand) → AreAlike (stepped_at s p up x) (stepped_at t q up x)
  unfolding stepped_at
  steps_at up x = after_alike (stepped_places x) (steps_by up)

  pub step_rules : (up : Option Bool) {c d : Checked Operand} → AreAlike c d → AreAlike (step_rule s p up c) (step_rule t q up d)
  unfolding step_rule
  step_rules up h = after_alike h (steps_at up)

  -- ---- `++` and `--` as values

  bumps_at : (first : Bool) (up : Option Bool) (x : Operand) → AreAlike (bump_at s p first up x) (bump_at t q first up x)
  unfolding bump_at
  bumps_at first up x = after_alike (stepped_places x) (bumps_by p q first up)

  pub bump_rules : (first : Bool) (up : Option Bool) {c d : Checked Operand} → AreAlike c d → AreAlike (bump_rule s p first up c) (bump_rule t q first up d)
  unfolding bump_rule
  bump_rules first up h = after_alike h (bumps_at first up)
