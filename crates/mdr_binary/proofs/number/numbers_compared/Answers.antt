use Rattle.mdr_binary.specs.Binaries.{numbers_compared}
use Rattle.mdr_binary.proofs.number.numbers_compared.Goals as goal

pub returns : goal.returns
unfolding numbers_compared
returns c = c.both_compared.ensures _ _ c.integer_at.ensures c.integer_at-2.ensures
