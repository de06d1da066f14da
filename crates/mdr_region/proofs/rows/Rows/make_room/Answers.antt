use Rattle.std.proofs.Common.{refl, arith}
use Rattle.mdr_region.proofs.WholeLaws.{whole-moved, contents-moved}
use Rattle.mdr_region.proofs.rows.Rows.make_room.Goals as goal

pub returns-clause-contents : goal.returns-clause-contents
returns-clause-contents c =
    let s = c.args.self.now in
    contents-moved s.live.items c.reserve.new.self.items s.rows.slots c.make_slots.new.rows.slots s.pool.values.items s.pool.places.lives c.reserve.ensures.items c.make_slots.ensures.same

pub returns-clause-whole : goal.returns-clause-whole
returns-clause-whole c =
    let w = c.requires.whole in
    whole-moved c.args.self.now _ w c.reserve.ensures.items refl c.make_slots.ensures.same c.reserve.ensures.capacity
    (omega (arith, c.make_slots.ensures.len, c.make_slots.ensures.capacity, w.room))
    (λ more. c.make_slots.ensures.stays_small (w.small more))
