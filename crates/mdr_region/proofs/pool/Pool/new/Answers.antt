use Rattle.std.proofs.Common.{arith, length, ap}
use Rattle.mdr_region.proofs.pool.Pool.new.Goals as goal

pub returns-clause-sound : goal.returns-clause-sound
returns-clause-sound c = record {
  places = c.new.ensures.sound;
  cells = omega (arith, ap length c.new-2.ensures.items, c.new.ensures.top);
  roomy = omega (arith, ap length c.new-2.ensures.items);
  births = omega (arith, c.new.ensures.live);
  serials = omega (arith, c.new.ensures.births);
}
