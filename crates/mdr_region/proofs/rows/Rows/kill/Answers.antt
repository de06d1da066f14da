use Rattle.std.proofs.Common.{◌≡◌, ◌++◌, ◌∷◌, [], length, ◌∙◌, ap, arith}
use Rattle.mdr_mem.specs.declared.cells.Life.TheVariants.{Death}
use Rattle.mdr_mem.specs.Rows.{blocks_of}
use Rattle.mdr_mem.proofs.SoundLaws.{left-length}
use Rattle.mdr_region.specs.Layout.{laid}
use Rattle.mdr_region.specs.Slots.{held_slots}
use Rattle.mdr_region.proofs.RegionLaws.{kept-died}
use Rattle.mdr_region.proofs.ContentLaws.{contents-died}
use Rattle.mdr_region.proofs.rows.Rows.kill.Goals as goal

pub returns-clause-whole : goal.returns-clause-whole
returns-clause-whole c =
    let w = c.requires.whole in
    let s = c.args.self.now in
    let height : c.death.new.self.places.top ≡ length (laid (s.pool.places.lives ++ Death c.args.b.serial ∷ [])).marks =
    c.death.ensures.sound.places.height ∙ ap (λ ls. length (laid ls).marks) c.death.ensures.dead in
    record {
      kept = rw (c.forget.ensures.items, c.death.ensures.values, c.death.ensures.dead, c.death.ensures.serials)
          (kept-died s.live.items s.rows.slots c.remove.new.self.slots s.pool.values.items s.pool.places.lives s.pool.places.births c.death.new.self.places.top w.kept c.args.b c.requires.alive
          c.remove.ensures.updates.changed c.remove.ensures.updates.others height);
      pool = c.death.ensures.sound;
      listed = omega (arith, ap length c.forget.ensures.items, left-length c.args.b.serial s.live.items, c.forget.ensures.capacity, c.death.ensures.births_left, w.listed);
      room = omega (arith, c.remove.ensures.len, c.remove.ensures.capacity, c.death.ensures.births_left, w.room);
      small = λ some. omega (arith, c.remove.ensures.capacity, w.small (omega (arith, some, c.death.ensures.births_left)));
    }

pub returns-clause-dead : goal.returns-clause-dead
returns-clause-dead c =
    let w = c.requires.whole in
    let s = c.args.self.now in
    let height : c.death.new.self.places.top ≡ length (laid (s.pool.places.lives ++ Death c.args.b.serial ∷ [])).marks =
    c.death.ensures.sound.places.height ∙ ap (λ ls. length (laid ls).marks) c.death.ensures.dead in
    (λ i. record {
      handles = c.forget.ensures.items i;
      memory = blocks_of (c.forget.ensures.items i) (held_slots (c.death.ensures.values i) c.remove.new.self.slots) (c.forget.ensures.items i);
      lives = c.death.ensures.dead i;
    })
    ∙ contents-died s.live.items s.rows.slots c.remove.new.self.slots s.pool.values.items s.pool.places.lives s.pool.places.births c.death.new.self.places.top w.kept c.args.b c.requires.alive
    c.remove.ensures.updates.changed c.remove.ensures.updates.others height
