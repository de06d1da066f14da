use Rattle.mdr_user_memory.proofs.LoopLaws.{buries_first, buries_lives, buries_moves, buries_next, buries_pairs}
use Rattle.mdr_user_memory.proofs.lists.bury_all.Goals as goal

pub bury-requires : goal.bury-requires
bury-requires c = c.loop-serial.invariant.linked

pub loop-serial-init : goal.loop-serial-init
loop-serial-init c = buries_first c.args.serials.now c.args.region.now c.args.pairs.now c.requires

pub loop-serial-preserved : goal.loop-serial-preserved
loop-serial-preserved c =
    buries_next c.args.serials.now c.loop-serial.serial-index _ c.args.region.now c.loop-serial.region c.bury.new.region c.args.pairs.now c.loop-serial.pairs c.bury.new.pairs c.loop-serial-test.true
    c.bury.ensures.linked c.bury.ensures.moves c.bury.ensures.pairs c.bury.ensures.cells c.bury.ensures.births c.bury.ensures.room c.bury.ensures.lived c.loop-serial.invariant

pub returns-clause-linked : goal.returns-clause-linked
returns-clause-linked c = c.loop-serial.invariant.linked

pub returns-clause-moves : goal.returns-clause-moves
returns-clause-moves c = buries_moves c.args.serials.now c.loop-serial.serial-index c.args.region.now c.loop-serial.region c.args.pairs.now c.loop-serial.pairs c.loop-serial-test.false c.loop-serial.invariant

pub returns-clause-pairs : goal.returns-clause-pairs
returns-clause-pairs c = buries_pairs c.args.serials.now c.loop-serial.serial-index c.args.region.now c.loop-serial.region c.args.pairs.now c.loop-serial.pairs c.loop-serial-test.false c.loop-serial.invariant

pub returns-clause-lived : goal.returns-clause-lived
returns-clause-lived c = buries_lives c.args.serials.now c.loop-serial.serial-index c.args.region.now c.loop-serial.region c.args.pairs.now c.loop-serial.pairs c.loop-serial-test.false c.loop-serial.invariant
