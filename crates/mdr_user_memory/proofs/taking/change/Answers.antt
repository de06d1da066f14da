use Rattle.mdr_user_memory.proofs.MessageLaws.{fit_moved}
use Rattle.mdr_user_memory.proofs.LivedLaws.{lives_same}
use Rattle.mdr_user_memory.proofs.taking.change.Goals as goal

pub bear_all-requires-clause-fit : goal.bear_all-requires-clause-fit
bear_all-requires-clause-fit c = fit_moved c.args.news.now _ _ _ _ _ _ _ _ c.bury_all.ensures.pairs c.bury_all.ensures.cells c.bury_all.ensures.births c.bury_all.ensures.room c.requires.fit

pub returns-clause-moves : goal.returns-clause-moves
returns-clause-moves c = λ m p. c.scatter.ensures.moves _ (c.bear_all.ensures.moves _ (c.bury_all.ensures.moves m p))

pub returns-clause-lived : goal.returns-clause-lived
returns-clause-lived c = λ l h. lives_same c.scatter.ensures.lives (c.bear_all.ensures.lived _ (c.bury_all.ensures.lived l h))
