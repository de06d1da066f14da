-- The proof of `field_start`.
use Rattle.std.proofs.Common.{arith}
use Rattle.mdr_core.proofs.Lying.{looks, looks-few}
use Rattle.mdr_exec.proofs.Begun.{begun_first, begun_small, begun_few, begun_more, begun_here, begun_all}
use Rattle.mdr_exec.proofs.layout.field_start.Goals as goal

pub overflow_mul-total : goal.overflow_mul-total
overflow_mul-total c =
    let few = looks-few _ _ _ _ _ (looks c.args.structs.now c.args.s _ _ _ _ c.fields-field-items.ensures c.loop-field-test.true c.field-item.is c.size_below.ensures) in
    let small = c.requires.small.within c.args.s in
    omega arith

pub overflow_add-total : goal.overflow_add-total
overflow_add-total c =
    let small = begun_small _ _ _ _ _ _ _ _ c.requires.small (looks c.args.structs.now c.args.s _ _ _ _ c.fields-field-items.ensures c.loop-field-test.true c.field-item.is c.size_below.ensures) c.loop-field.invariant in
    omega arith

pub overflow_add-number : goal.overflow_add-number
overflow_add-number c =
    let few = begun_few _ _ _ _ _ _ _ c.requires.few c.fields-field-items.ensures c.loop-field-test.true c.loop-field.invariant in
    omega arith

pub returns-then-number-f : goal.returns-then-number-f
returns-then-number-f c = begun_here _ _ _ _ _ _ c.loop-field.invariant c.if-number-f.true

pub loop-field-preserved : goal.loop-field-preserved
loop-field-preserved c = begun_more _ _ _ _ _ _ _ _ (looks _ _ _ _ _ _ c.fields-field-items.ensures c.loop-field-test.true c.field-item.is c.size_below.ensures) c.loop-field.invariant c.if-number-f.false

pub returns : goal.returns
returns c = begun_all _ _ _ _ _ _ _ c.fields-field-items.ensures c.loop-field-test.false c.loop-field.invariant

pub loop-field-init : goal.loop-field-init
loop-field-init c = begun_first c.args.structs.now c.args.s c.args.f
