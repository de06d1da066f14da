use Rattle.std.proofs.Common.{◌∙◌, ◌≡◌, ◌+◌, length, arith}
use Rattle.mdr_region.specs.Holes.{front}
use Rattle.mdr_region.proofs.MarkLaws.{holes_rise}
use Rattle.mdr_region.proofs.BirthLaws.{placed_holes, placed_front, placed_length, placed_used}
use Rattle.mdr_region.proofs.laws.births_take_holes.Goals as goal

pub returns : goal.returns
returns c = record {
  rise = λ marks. holes_rise 0 (length marks) marks (omega arith);
  holes = λ s n marks pos. placed_holes s n 0 (length marks) marks pos (omega arith);
  start = λ n marks pos. let e : 0 + length marks ≡ length marks = omega arith in let f : 0 + front n marks ≡ front n marks = omega arith in (rw e at (placed_front n 0 (length marks) marks pos (omega arith))) ∙ f;
  top = λ s n marks pos. placed_length s n 0 (length marks) marks pos (omega arith);
  count = placed_used;
}
