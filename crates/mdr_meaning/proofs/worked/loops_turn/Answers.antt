use Rattle.mdr_meaning.proofs.WorkedProofs.{counts_down, sums_up, renews}
use Rattle.mdr_meaning.proofs.worked.loops_turn.Goals as goal

pub returns : goal.returns
returns c = record { down = counts_down; up = sums_up; zeroed = renews }
