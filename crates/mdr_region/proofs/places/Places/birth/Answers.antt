use Rattle.std.proofs.Common.{arith}
use Rattle.mdr_region.proofs.KeptLaws.{kept_rise, kept_birth, birth_fills, birth_block}
use Rattle.mdr_region.proofs.places.Places.birth.Goals as goal

pub place-requires : goal.place-requires
place-requires c = kept_rise _ _ _ _ _ _ _ c.make_room.ensures.sound

pub overflow_add-self : goal.overflow_add-self
overflow_add-self c = omega (arith, birth_fills _ _ _ _ _ _ _ c.args.cells c.make_room.ensures.sound c.requires.some, c.in-Some.ensures.top, c.in-Some.ensures.fits)

pub returns-clause-sound : goal.returns-clause-sound
returns-clause-sound c =
    rw (c.and.ensures, c.in-Some.ensures.holes, c.in-Some.ensures.top, c.place.ensures.capacity)
    (kept_birth _ _ _ _ _ _ _ c.args.cells c.make_room.ensures.sound (omega (arith, c.in_ok-make_room.ensures.room, c.make_room.ensures.live)) c.requires.some)

pub returns-clause-block : goal.returns-clause-block
returns-clause-block c =
    rw (c.and.ensures, c.in-Some.ensures.start, ← c.make_room.ensures.births)
    (birth_block _ _ _ _ _ _ _ c.args.cells c.make_room.ensures.sound c.requires.some)
