use Rattle.mdr_binary.specs.Binaries.{null_compared}
use Rattle.mdr_binary.proofs.value.null_compared.Goals as goal

pub returns : goal.returns
unfolding null_compared
returns c = c.both_compared.ensures _ _ c.null_or_address-e.ensures c.null_or_address-f.ensures
