use Rattle.mdr_faults.specs.Declarations.{object_declared}
use Rattle.mdr_faults.proofs.object.object_declared.Goals as goal

pub returns : goal.returns
unfolding object_declared
returns c = c.counted.ensures _ _ c.in_ok-ty.ensures c.count_of-count.ensures
