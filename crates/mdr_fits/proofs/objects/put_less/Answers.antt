use Rattle.mdr_fits.proofs.ObjectTests.{less_all, less_next}
use Rattle.mdr_fits.proofs.objects.put_less.Goals as goal

pub loop-serial-preserved : goal.loop-serial-preserved
loop-serial-preserved c = less_next c.args.gone.now c.loop-serial.out _ c.args.serials.now c.loop-serial.serial-index _ _ c.loop-serial-test.true c.in_ok-put_left.ensures c.loop-serial.invariant

pub returns : goal.returns
returns c = less_all c.args.gone.now c.loop-serial.out c.args.serials.now c.loop-serial.serial-index _ c.loop-serial-test.false c.loop-serial.invariant
