use Rattle.std.proofs.Common.{◌≤◌, ◌+◌, length, arith, ap, rules}
use Rattle.mdr_region.proofs.CellLaws.{length_written, risen_none}
use Rattle.mdr_region.proofs.KeptLaws.{block_low}
use Rattle.mdr_region.proofs.pool.Pool.birth_in_hole.Goals as goal

pub overwrite-requires : goal.overwrite-requires
overwrite-requires c =
    let l : c.in_ok-start.start + length c.args.first.now ≤ length c.args.self.now.values.items = omega (arith, block_low _ _ _ _ _ _ _ _ _ _ c.in_ok-start.ensures.sound c.in_ok-start.ensures.block, c.in_ok-start.ensures.top, risen_none (length c.args.first.now) _ c.requires.hole, c.requires.sound.cells) in
    l

pub returns-clause-sound : goal.returns-clause-sound
returns-clause-sound c =
    let l : c.in_ok-start.start + length c.args.first.now ≤ length c.args.self.now.values.items = omega (arith, block_low _ _ _ _ _ _ _ _ _ _ c.in_ok-start.ensures.sound c.in_ok-start.ensures.block, c.in_ok-start.ensures.top, risen_none (length c.args.first.now) _ c.requires.hole, c.requires.sound.cells) in
    let same = length_written c.in_ok-start.start c.args.first.now c.args.self.now.values.items l in
    let held = ap length c.overwrite.ensures.values in
    record {
      places = c.birth.ensures.sound;
      cells = omega (arith, held, same, c.in_ok-start.ensures.top, risen_none (length c.args.first.now) _ c.requires.hole, c.requires.sound.cells);
      roomy = omega (arith, held, same, c.overwrite.ensures.capacity, c.requires.sound.roomy, c.saturating_sub-self.ensures);
      births = omega (arith, c.birth.ensures.spare_births, c.requires.sound.births, c.birth.ensures.sound.roomy, c.saturating_sub-self-2.ensures);
      serials = omega (arith, c.in_ok-start.ensures.births, c.in_ok-start.ensures.fits, c.requires.sound.serials, c.saturating_sub-self-2.ensures);
    }

pub returns-clause-born : goal.returns-clause-born
returns-clause-born c = record {
  lives = c.in_ok-start.ensures.born;
  block = c.in_ok-start.ensures.block;
  low = omega (arith, block_low _ _ _ _ _ _ _ _ _ _ c.in_ok-start.ensures.sound c.in_ok-start.ensures.block, c.in_ok-start.ensures.top, risen_none (length c.args.first.now) _ c.requires.hole, c.requires.sound.cells);
  values = c.overwrite.ensures.values;
  cells_left = search rules;
  births_left = search rules;
  serials = c.in_ok-start.ensures.births;
}
