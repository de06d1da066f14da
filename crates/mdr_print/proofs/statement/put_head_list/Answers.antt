use Rattle.mdr_print.proofs.Rows.{head_more, head_whole}
use Rattle.mdr_print.proofs.statement.put_head_list.Goals as goal

pub loop-s-preserved : goal.loop-s-preserved
loop-s-preserved c =
    head_more c.args.init.now c.loop-s.s-index c.s-item.result c.loop-s.is_first _ c.loop-s.out.items c.put_comma_unless.new.out.items c.put_head_part.new.out.items
    c.loop-s-test.true c.s-item.is c.loop-s.invariant c.in_ok-put_comma_unless.ensures c.in_ok-put_head_part.ensures

pub returns : goal.returns
returns c = head_whole c.args.init.now c.loop-s.s-index c.loop-s.is_first _ c.loop-s.out.items c.loop-s-test.false c.loop-s.invariant
