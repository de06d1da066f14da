-- The proof of `field_at`.
use Rattle.std.proofs.Common.{arith}
use Rattle.mdr_core.proofs.Lying.{looks, looks-few, sought_found, sought_more, sought_all}
use Rattle.mdr_core.proofs.layout.field_at.Goals as goal

pub overflow_mul-size : goal.overflow_mul-size
overflow_mul-size c =
    let few = looks-few _ _ _ _ _ (looks c.args.structs.now c.args.s _ _ _ _ c.fields-field-items.ensures c.loop-field-test.true c.field-item.is c.size_below.ensures) in
    let small = c.requires.small.within c.args.s in
    omega arith

pub returns-then-left-size : goal.returns-then-left-size
returns-then-left-size c = sought_found _ _ _ _ _ _ _ _ c.size_below.ensures (looks _ _ _ _ _ _ c.fields-field-items.ensures c.loop-field-test.true c.field-item.is c.size_below.ensures) c.loop-field.invariant c.if-left-size.true

pub loop-field-preserved : goal.loop-field-preserved
loop-field-preserved c = sought_more _ _ _ _ _ _ _ _ (looks _ _ _ _ _ _ c.fields-field-items.ensures c.loop-field-test.true c.field-item.is c.size_below.ensures) c.loop-field.invariant c.if-left-size.false

pub returns : goal.returns
returns c = sought_all _ _ _ _ _ _ _ c.fields-field-items.ensures c.loop-field-test.false c.loop-field.invariant
