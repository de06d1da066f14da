use Rattle.mdr_binary.specs.Binaries.{voids_compared}
use Rattle.mdr_binary.proofs.value.voids_compared.Goals as goal

pub returns : goal.returns
unfolding voids_compared
returns c = c.compared_where.ensures _ _ c.boxed_void.ensures c.boxed_void-2.ensures
