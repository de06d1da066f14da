use Rattle.std.proofs.Common.{arith}
use Rattle.mdr_region.proofs.pool.Pool.birth_of_none.Goals as goal

pub returns-clause-sound : goal.returns-clause-sound
returns-clause-sound c = record {
  places = c.birth_of_none.ensures.sound;
  cells = omega (arith, c.birth_of_none.ensures.top, c.requires.cells);
  roomy = c.requires.roomy;
  births = omega (arith, c.birth_of_none.ensures.live, c.birth_of_none.ensures.holes, c.requires.births, c.saturating_sub-self.ensures);
  serials = omega (arith, c.in_ok-birth_of_none.ensures.births, c.in_ok-birth_of_none.ensures.fits, c.requires.serials, c.saturating_sub-self.ensures);
}
