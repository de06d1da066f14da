use Rattle.mdr_binary.specs.Binaries.{numbers_calculated}
use Rattle.mdr_binary.proofs.number.numbers_calculated.Goals as goal

pub returns : goal.returns
unfolding numbers_calculated
returns c = c.both_calculated.ensures _ _ c.integer_at.ensures c.integer_at-2.ensures
