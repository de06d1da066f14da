use Rattle.mdr_user_memory.proofs.LoopLaws.{bears_first, bears_fits, bears_lives, bears_moves, bears_next}
use Rattle.mdr_user_memory.proofs.lists.bear_all.Goals as goal

pub bear-requires-clause-linked : goal.bear-requires-clause-linked
bear-requires-clause-linked c = c.loop-new.invariant.linked

pub bear-requires-clause-fits : goal.bear-requires-clause-fits
bear-requires-clause-fits c = bears_fits c.args.news.now c.loop-new.new-index c.new-item.result c.args.region.now c.loop-new.region c.args.pairs.now c.loop-new.pairs c.loop-new-test.true c.new-item.is c.loop-new.invariant

pub loop-new-init : goal.loop-new-init
loop-new-init c = bears_first c.args.news.now c.args.region.now c.args.pairs.now c.requires.linked c.requires.fit

pub loop-new-preserved : goal.loop-new-preserved
loop-new-preserved c =
    bears_next c.args.news.now c.loop-new.new-index c.new-item.result c.args.region.now c.loop-new.region c.args.pairs.now c.loop-new.pairs c.loop-new-test.true c.new-item.is c.loop-new.invariant
    c.bear.new.region c.bear.new.pairs c.bear.result c.bear.ensures.linked c.bear.ensures.moves c.bear.ensures.pairs c.bear.ensures.cells c.bear.ensures.births c.bear.ensures.room c.bear.ensures.lived

pub returns-clause-linked : goal.returns-clause-linked
returns-clause-linked c = c.loop-new.invariant.linked

pub returns-clause-moves : goal.returns-clause-moves
returns-clause-moves c = bears_moves c.args.news.now c.loop-new.new-index c.args.region.now c.loop-new.region c.args.pairs.now c.loop-new.pairs c.loop-new-test.false c.loop-new.invariant

pub returns-clause-lived : goal.returns-clause-lived
returns-clause-lived c = bears_lives c.args.news.now c.loop-new.new-index c.args.region.now c.loop-new.region c.args.pairs.now c.loop-new.pairs c.loop-new-test.false c.loop-new.invariant
