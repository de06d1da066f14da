use Rattle.std.proofs.Common.{ap, sym, subst}
use Rattle.mdr_mem.specs.Contents.{Contents}
use Rattle.mdr_track.specs.Tracked.{pairs_of}
use Rattle.mdr_user_memory.specs.Taking.{AreFresh, unpaired_all}
use Rattle.mdr_user_memory.proofs.MessageLaws.{room_fit}
use Rattle.mdr_user_memory.proofs.StepLaws.{linked_moved, moved_from}
use Rattle.mdr_user_memory.proofs.LivedLaws.{lives_from}
use Rattle.mdr_user_memory.proofs.taking.take_in.Goals as goal

pub change-requires-clause-linked : goal.change-requires-clause-linked
change-requires-clause-linked c = linked_moved c.promise.ensures.contents c.promise.ensures.pairs c.requires.linked

pub change-requires-clause-fit : goal.change-requires-clause-fit
change-requires-clause-fit c =
    room_fit c.args.news.now (unpaired_all c.args.told.deaths.now (pairs_of c.promise.new.pairs)) _ _ _
    (subst (λ ps. AreFresh c.args.news.now (unpaired_all c.args.told.deaths.now ps)) (sym c.promise.ensures.pairs) c.requires.fresh) c.requires.sized c.in_ok-promise.ensures.room

pub returns-clause-moves : goal.returns-clause-moves
returns-clause-moves c = moved_from c.promise.ensures.contents c.promise.ensures.pairs c.change.ensures.moves

pub returns-clause-lived : goal.returns-clause-lived
returns-clause-lived c = lives_from (ap (λ (r : Contents). r.lives) c.promise.ensures.contents) c.promise.ensures.pairs c.change.ensures.lived
