use Rattle.mdr_print.specs.Statements.{label}
use Rattle.mdr_print.proofs.Rows.{row_more, row_whole}
use Rattle.mdr_print.proofs.statement.put_labels.Goals as goal

pub loop-l-preserved : goal.loop-l-preserved
loop-l-preserved c =
    row_more (label c.args.depth) c.args.labels.now c.loop-l.l-index c.l-item.result _ c.loop-l.out.items c.put_label.new.out.items
    c.loop-l-test.true c.l-item.is c.loop-l.invariant c.in_ok-put_label.ensures

pub returns : goal.returns
returns c = row_whole (label c.args.depth) c.args.labels.now c.loop-l.l-index _ c.loop-l.out.items c.loop-l-test.false c.loop-l.invariant
