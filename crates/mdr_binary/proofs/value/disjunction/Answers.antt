use Rattle.mdr_binary.specs.Binaries.{disjunction}
use Rattle.mdr_binary.proofs.value.disjunction.Goals as goal

pub returns : goal.returns
unfolding disjunction
returns c = c.disjunction_of.ensures _ _ c.scalar_at.ensures c.scalar_at-2.ensures
