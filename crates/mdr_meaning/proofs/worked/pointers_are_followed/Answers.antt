use Rattle.mdr_meaning.proofs.WorkedProofs.{makes_ring, walks_ring, takes_node, loses_node, keeps_token, adds_four, adds_five}
use Rattle.mdr_meaning.proofs.worked.pointers_are_followed.Goals as goal

pub returns : goal.returns
returns c = record { made = makes_ring; ring = walks_ring; alias = takes_node; lost = loses_node; kept = keeps_token; four = adds_four; five = adds_five }
