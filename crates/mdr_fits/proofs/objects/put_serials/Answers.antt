use Rattle.mdr_fits.proofs.ObjectTests.{serials_all, serials_next}
use Rattle.mdr_fits.proofs.objects.put_serials.Goals as goal

pub loop-value-preserved : goal.loop-value-preserved
loop-value-preserved c = serials_next c.loop-value.out _ c.args.values.now c.loop-value.value-index _ _ c.loop-value-test.true c.in_ok-put_serial.ensures c.loop-value.invariant

pub returns : goal.returns
returns c = serials_all c.loop-value.out c.args.values.now c.loop-value.value-index _ c.loop-value-test.false c.loop-value.invariant
