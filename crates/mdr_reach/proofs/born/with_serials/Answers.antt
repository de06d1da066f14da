use Rattle.std.proofs.Common.{◌≤◌, subst}
use Rattle.mdr_reach.proofs.BornLaws.{more_within, older_more, older_yet, serials_more, serials_over}
use Rattle.mdr_reach.proofs.born.with_serials.Goals as goal

pub loop-serial-preserved : goal.loop-serial-preserved
loop-serial-preserved c = record {
  gains = serials_more c.args.scene.program.now c.args.scene.touched.now c.args.scene.blocks.now.memory c.loop-serial.set c.in_ok-set.set _ c.loop-serial.serial c.births-births.ensures.in_order.rises c.in_ok-set.ensures c.loop-serial.invariant.gains;
  older = older_more c.args.scene.program.now c.args.scene.touched.now c.args.scene.blocks.now.memory c.loop-serial.set c.in_ok-set.set c.loop-serial.serial c.in_ok-set.ensures c.loop-serial.invariant.older;
  within = more_within c.loop-serial.serial c.births-births.result c.loop-serial-test.true;
}

pub returns-clause-gains : goal.returns-clause-gains
returns-clause-gains c = serials_over c.args.scene.program.now c.args.scene.touched.now c.args.scene.blocks.now.memory c.loop-serial.set _ _ c.loop-serial.serial c.births-births.ensures.in_order.below (subst (λ n. n ≤ c.loop-serial.serial) c.births-births.ensures.value c.loop-serial-test.false) c.loop-serial.invariant.gains

pub returns-clause-older : goal.returns-clause-older
returns-clause-older c = older_yet c.loop-serial.set c.loop-serial.serial _ (subst (λ n. c.loop-serial.serial ≤ n) c.births-births.ensures.value c.loop-serial.invariant.within) c.loop-serial.invariant.older
