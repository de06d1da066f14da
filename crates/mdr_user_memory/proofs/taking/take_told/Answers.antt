use Rattle.std.proofs.Common.{◌∙◌, sym, subst}
use Rattle.std.specs.Prelude.{OnOk}
use Rattle.mdr_track.specs.Tracked.{pairs_of}
use Rattle.mdr_user_memory.specs.Taking.{AreFresh, AreSized, Moves, taken, unpaired_all}
use Rattle.mdr_user_memory.specs.Lived.{LivesIn, lived_with}
use Rattle.mdr_user_memory.proofs.taking.take_told.Goals as goal

pub take_in-requires-clause-sized : goal.take_in-requires-clause-sized
take_in-requires-clause-sized c = subst AreSized (sym (c.as_slice.ensures ∙ c.in_ok-news.ensures)) c.requires.sized

pub take_in-requires-clause-fresh : goal.take_in-requires-clause-fresh
take_in-requires-clause-fresh c = subst (λ xs. AreFresh xs (unpaired_all c.args.told.deaths.now (pairs_of c.args.pairs.now))) (sym (c.as_slice.ensures ∙ c.in_ok-news.ensures)) c.requires.fresh

pub returns-clause-moves : goal.returns-clause-moves
returns-clause-moves c =
    subst (λ xs. OnOk c.take_in.result (Moves (taken c.args.told.deaths.now xs c.args.told.runs.now) c.args.region.now.contents (pairs_of c.args.pairs.now) c.take_in.new.region.contents (pairs_of c.take_in.new.pairs)))
    (c.as_slice.ensures ∙ c.in_ok-news.ensures) c.take_in.ensures.moves

pub returns-clause-lived : goal.returns-clause-lived
returns-clause-lived c =
    subst (λ xs. OnOk c.take_in.result (LivesIn (lived_with c.args.told.deaths.now xs) c.args.region.now c.args.pairs.now c.take_in.new.region c.take_in.new.pairs)) (c.as_slice.ensures ∙ c.in_ok-news.ensures) c.take_in.ensures.lived
