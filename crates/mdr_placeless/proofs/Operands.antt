-- The rules of operands look at no place.
use Rattle.std.proofs.Common.{Option, Some, None}
use Rattle.mdr_core.specs.declared.place.Place.{Place}
use Rattle.mdr_core.specs.declared.types.Ty.{Ty}
use Rattle.mdr_rich.specs.declared.code.Expr.{Expr}
use Rattle.mdr_operand.specs.declared.operand.Operand.{Operand}
use Rattle.mdr_operand.specs.declared.operand.Operand.TheVariants as operand
use Rattle.mdr_operand.specs.declared.operator.PrefixOperator.{PrefixOperator}
use Rattle.mdr_operand.specs.declared.operator.PrefixOperator.TheVariants as prefix
use Rattle.mdr_faults.specs.Faults.{Checked}
use Rattle.mdr_operand.specs.Forms.{scalar_at, scalar_of, value_at, integer_at, integer_by, value_of, condition_at, pointer_by, pointer_at, address, promotion_at, negation_at, flip_at, not_at, target_at, prefix_of, prefix_by, prefix_rule}
use Rattle.mdr_operand.specs.Converting.{cast_as, value_of_type, cast_to, operand_as, converted_at}
use Rattle.mdr_placeless.specs.Alike.{AreAlike}
use Rattle.mdr_placeless.specs.Alike.AreAlike.{Rights, Wrongs}
use Rattle.mdr_placeless.proofs.Combined.{after_alike, needed_alike}

pub scalars : (p q : Place) (x : Operand) → AreAlike (scalar_at p x) (scalar_at q x)
unfolding scalar_at
scalars p q x = needed_alike p q (value_of x)

pub values_at : (p q : Place) (t : Ty) (e : Expr) → AreAlike (value_at p t e) (value_at q t e)
unfolding value_at
values_at p q t e = after_alike (needed_alike p q (scalar_of e t)) (λ v. Rights _)

pub integers : (p q : Place) (x : Operand) → AreAlike (integer_at p x) (integer_at q x)
unfolding integer_at
integers p q x = after_alike (scalars p q x) (λ v. needed_alike p q (integer_by v))

pub conditions : (p q : Place) (x : Operand) → AreAlike (condition_at p x) (condition_at q x)
unfolding condition_at
conditions p q x = after_alike (scalars p q x) (λ v. Rights _)

pub pointers : (p q : Place) (x : Operand) → AreAlike (pointer_at p x) (pointer_at q x)
unfolding pointer_at
pointers p q x = after_alike (scalars p q x) (λ v. needed_alike p q (pointer_by v))

addresses : (p q : Place) (x : Operand) → AreAlike (address p x) (address q x)
unfolding address
addresses p q (operand.Value v) = Wrongs _ _
addresses p q (operand.Zero k) = Wrongs _ _
addresses p q operand.Null = Wrongs _ _
addresses p q (operand.Object l t) = Rights _
addresses p q (operand.Array l t n) = Wrongs _ _
addresses p q (operand.Function f ts) = Rights _

prefixes : (p q : Place) (x : Operand) (op : PrefixOperator) → AreAlike (prefix_of p x op) (prefix_of q x op)
unfolding prefix_of promotion_at negation_at flip_at not_at target_at
prefixes p q x prefix.Promote = after_alike (integers p q x) (λ n. Rights _)
prefixes p q x prefix.Negate = after_alike (integers p q x) (λ n. Rights _)
prefixes p q x prefix.Flip = after_alike (integers p q x) (λ n. Rights _)
prefixes p q x prefix.Not = after_alike (conditions p q x) (λ e. Rights _)
prefixes p q x prefix.Address = addresses p q x
prefixes p q x prefix.Target = after_alike (pointers p q x) (λ y. Rights _)

prefixes_by : (p q : Place) (op : Option PrefixOperator) (x : Operand) → AreAlike (prefix_by p op x) (prefix_by q op x)
prefixes_by p q None x = Wrongs _ _
prefixes_by p q (Some op) x = prefixes p q x op

pub prefix_rules : (p q : Place) (op : Option PrefixOperator) {c d : Checked Operand} → AreAlike c d → AreAlike (prefix_rule p op c) (prefix_rule q op d)
unfolding prefix_rule
prefix_rules p q op h = after_alike h (prefixes_by p q op)

casts_to : (p q : Place) (t : Ty) (x : Operand) → AreAlike (cast_to p t x) (cast_to q t x)
unfolding cast_to
casts_to p q t x = after_alike (needed_alike p q (value_of_type (cast_as x t) t)) (λ v. Rights _)

pub conversions : (p q : Place) (t : Ty) (x : Operand) → AreAlike (converted_at p t x) (converted_at q t x)
unfolding converted_at
conversions p q t x = needed_alike p q (operand_as x t)
