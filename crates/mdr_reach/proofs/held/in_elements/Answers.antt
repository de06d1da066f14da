use Rattle.std.proofs.Common.{refl}
use Rattle.mdr_reach.proofs.BlockLaws.{in_elements, item_is, left_below, no_elements, past_elements}
use Rattle.mdr_reach.proofs.held.in_elements.Goals as goal

pub returns-then-size-eq0 : goal.returns-then-size-eq0
returns-then-size-eq0 g c = no_elements c.args.element.now c.args.count c.args.index _ refl c.if-size-eq0.true

pub returns-then-index-size : goal.returns-then-index-size
returns-then-index-size g c = past_elements c.args.element.now c.args.count c.args.index _ refl c.if-index-size.true

pub returns : goal.returns
returns g c = in_elements c.args.element.now c.args.count c.args.index _ c.index-element-index.result refl c.if-size-eq0.false c.if-index-size.false
    (item_is c.args.element.now _ c.index-element-index.result (left_below c.args.index _ c.if-size-eq0.false) c.index-element-index.is)
