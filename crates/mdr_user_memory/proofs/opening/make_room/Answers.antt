use Rattle.std.proofs.Common.{◌∙◌, ap, arith}
use Rattle.mdr_track.specs.Pairs.{Pairs}
use Rattle.mdr_user_memory.proofs.opening.make_room.Goals as goal

pub returns-clause-fits : goal.returns-clause-fits
returns-clause-fits c = record {
  some = c.requires.sized.some;
  few = c.requires.sized.few;
  has_cells = omega (arith, c.in_ok-reserve.ensures.cells, c.len.ensures);
  has_births = omega (arith, c.in_ok-reserve.ensures.births);
  has_pairs = omega (arith, c.in_ok-reserve-2.ensures.room);
  new = ap (λ (ps : Pairs). ps.user_of c.args.new.now.born.serial) c.reserve-2.ensures.pairs ∙ c.requires.new;
}
