use Rattle.mdr_region.proofs.DeathLaws.{left_holes, left_used}
use Rattle.mdr_region.proofs.laws.deaths_leave_holes.Goals as goal

pub returns : goal.returns
returns c = record {
  holes = λ s start n marks some b. (left_holes s start n marks some b.places).0;
  top = λ s start n marks some b. (left_holes s start n marks some b.places).1;
  count = λ s start n marks b. left_used s start n marks b.none b.places;
}
