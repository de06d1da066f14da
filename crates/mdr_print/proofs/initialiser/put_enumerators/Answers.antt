use Rattle.mdr_print.specs.Declarations.{enumerator}
use Rattle.mdr_print.proofs.Rows.{separated_more, separated_whole}
use Rattle.mdr_print.proofs.initialiser.put_enumerators.Goals as goal

pub loop-e-preserved : goal.loop-e-preserved
loop-e-preserved c =
    separated_more enumerator c.args.enumerators.now c.loop-e.e-index c.e-item.result c.loop-e.is_first _ c.loop-e.out.items c.put_comma_unless.new.out.items
    c.put_enumerator.new.out.items c.loop-e-test.true c.e-item.is c.loop-e.invariant c.in_ok-put_comma_unless.ensures c.in_ok-put_enumerator.ensures

pub returns : goal.returns
returns c = separated_whole enumerator c.args.enumerators.now c.loop-e.e-index c.loop-e.is_first _ c.loop-e.out.items c.loop-e-test.false c.loop-e.invariant
