use Rattle.mdr_binary.specs.Binaries.{conjunction}
use Rattle.mdr_binary.proofs.value.conjunction.Goals as goal

pub returns : goal.returns
unfolding conjunction
returns c = c.conjunction_of.ensures _ _ c.scalar_at.ensures c.scalar_at-2.ensures
