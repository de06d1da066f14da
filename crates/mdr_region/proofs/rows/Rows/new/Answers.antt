use Rattle.std.proofs.Common.{arith, ap, length, []}
use Rattle.mdr_mem.proofs.SoundLaws.{blocks-none}
use Rattle.mdr_region.specs.Slots.{held_slots}
use Rattle.mdr_region.proofs.RegionLaws.{kept-none}
use Rattle.mdr_region.proofs.rows.Rows.new.Goals as goal

pub returns-clause-whole : goal.returns-clause-whole
returns-clause-whole c = record {
  kept = rw (c.new.ensures.items, c.new-2.ensures.empty, c.new-3.ensures.values, c.new-3.ensures.empty, c.new-3.ensures.serials) kept-none;
  pool = c.new-3.ensures.sound;
  listed = omega (arith, ap length c.new.ensures.items, c.new-3.ensures.births_left);
  room = rw (c.new-2.ensures.empty, c.new-3.ensures.births_left) (omega arith);
  small = λ more. absurd (omega (arith, more, c.new-3.ensures.births_left));
}

pub returns-clause-empty : goal.returns-clause-empty
returns-clause-empty c = rw (c.new.ensures.items, c.new-3.ensures.empty) (λ i. record { handles = []; memory = blocks-none [] (held_slots c.new-3.result.values.items c.new-2.result.slots) i; lives = [] })
