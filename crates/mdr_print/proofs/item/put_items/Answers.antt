use Rattle.mdr_print.specs.Items.{item_lines}
use Rattle.mdr_print.proofs.Rows.{row_more, row_whole}
use Rattle.mdr_print.proofs.item.put_items.Goals as goal

pub loop-item-preserved : goal.loop-item-preserved
loop-item-preserved c =
    row_more item_lines c.args.items.now c.loop-item.item-index c.item-item.result _ c.loop-item.out.items c.put_item.new.out.items
    c.loop-item-test.true c.item-item.is c.loop-item.invariant c.in_ok-put_item.ensures

pub returns : goal.returns
returns c = row_whole item_lines c.args.items.now c.loop-item.item-index _ c.loop-item.out.items c.loop-item-test.false c.loop-item.invariant
