-- The proof of `add_struct`, `add_field` and `add_below`.
use Rattle.std.proofs.Common.{◌≡◌, ◌-◌, suc, arith}
use Rattle.mdr_core.specs.Layout.{Alone, leaves, leaves_below}
use Rattle.mdr_program.proofs.Zeroing.{known_zeros, unknown_zeros, one_field, no_field, one_less, none_left}
use Rattle.mdr_program.proofs.values.+zeros.Goals as goal

pub add_below-returns-in_ok-add_struct-in-Struct : goal.add_below-returns-in_ok-add_struct-in-Struct
add_below-returns-in_ok-add_struct-in-Struct t c = known_zeros c.args.structs.now c.args.below c.in-Struct.s c.args.ty.now c.args.all.now c.add_struct.new.all c.if-s-below.true c.in-Struct.is c.in_ok-add_struct-in-Struct.ensures

pub add_below-returns-else-s-below : goal.add_below-returns-else-s-below
add_below-returns-else-s-below t c = unknown_zeros c.args.structs.now c.args.below c.in-Struct.s c.args.ty.now c.args.all.now c.if-s-below.false c.in-Struct.is

pub add_field-loop-left-preserved : goal.add_field-loop-left-preserved
add_field-loop-left-preserved t c = one_less _ c.loop-left.left (c.loop-left.left - 1) _ _ _ (let e : c.loop-left.left ≡ suc (c.loop-left.left - 1) = omega (arith, c.loop-left-test.true) in e) c.in_ok-add_below.ensures c.loop-left.invariant

pub add_field-returns : goal.add_field-returns
add_field-returns t c = none_left (leaves (leaves_below c.args.structs.now c.args.s) Alone c.args.field.now.ty) c.loop-left.left _ _ (let e : c.loop-left.left ≡ 0 = omega (arith, c.loop-left-test.false) in e) c.loop-left.invariant

pub add_struct-loop-field-preserved : goal.add_struct-loop-field-preserved
add_struct-loop-field-preserved t c = one_field _ _ _ _ _ _ _ _ _ c.fields-field-items.ensures c.loop-field-test.true c.field-item.is c.in_ok-add_field.ensures c.loop-field.invariant

pub add_struct-returns : goal.add_struct-returns
add_struct-returns t c = no_field _ _ _ _ _ _ _ c.fields-field-items.ensures c.loop-field-test.false c.loop-field.invariant
