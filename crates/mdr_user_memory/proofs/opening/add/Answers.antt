use Rattle.std.proofs.Common.{ap, refl, subst, ◌∙◌}
use Rattle.mdr_mem.specs.Contents.{Contents}
use Rattle.mdr_track.specs.Tracked.{pairs_of}
use Rattle.mdr_user_memory.specs.declared.newborn.Newborn.{Newborn}
use Rattle.mdr_user_memory.specs.Paired.{told_all}
use Rattle.mdr_user_memory.proofs.OpeningLaws.{added, first_sized}
use Rattle.mdr_user_memory.proofs.StepLaws.{linked_moved, moved_from}
use Rattle.mdr_user_memory.specs.Lived.{LivesIn, born}
use Rattle.mdr_user_memory.proofs.LivedLaws.{lives_from, told_length}
use Rattle.mdr_user_memory.proofs.opening.add.Goals as goal

pub make_room-requires-clause-sized : goal.make_room-requires-clause-sized
make_room-requires-clause-sized c =
    first_sized c.args.region.now.contents.handles (pairs_of c.args.pairs.now) c.in_ok-first.first c.args.block.now.cells (c.in_ok-first.ensures ∙ c.as_slice.ensures) c.requires.sized

pub bear-requires-clause-linked : goal.bear-requires-clause-linked
bear-requires-clause-linked c = linked_moved c.make_room.ensures.contents c.make_room.ensures.pairs c.requires.linked

pub returns-in-Ok-clause-moves : goal.returns-in-Ok-clause-moves
returns-in-Ok-clause-moves c =
    let x : Newborn = record { born = c.args.block.now.born; first = c.in_ok-first.first } in
    moved_from c.make_room.ensures.contents c.make_room.ensures.pairs
    (added c.args.block.now x c.make_room.new.region.contents c.bear.new.region.contents (pairs_of c.make_room.new.pairs) (pairs_of c.bear.new.pairs) refl
    ((λ i. told_all (c.make_room.ensures.contents i).handles (c.make_room.ensures.pairs i) c.in_ok-first.first) ∙ (c.in_ok-first.ensures ∙ c.as_slice.ensures)) c.in-Ok.ensures.fits.new c.bear.ensures.moves)

pub returns-in-Ok-clause-lived : goal.returns-in-Ok-clause-lived
returns-in-Ok-clause-lived c =
    let cells = told_length c.args.region.now.contents.handles (pairs_of c.args.pairs.now) c.in_ok-first.first _ (c.in_ok-first.ensures ∙ c.as_slice.ensures) in
    lives_from (ap (λ (r : Contents). r.lives) c.make_room.ensures.contents) c.make_room.ensures.pairs
    (subst (λ n. LivesIn (born c.args.block.now.born.serial n) c.make_room.new.region c.make_room.new.pairs c.bear.new.region c.bear.new.pairs) cells c.bear.ensures.lived)
