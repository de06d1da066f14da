use Rattle.mdr_slice.proofs.WorkedCycle.{cycle_is_cut}
use Rattle.mdr_slice.proofs.worked.a_cycle_crosses_the_border.Goals as goal

pub returns : goal.returns
returns c = cycle_is_cut
