use Rattle.mdr_over_bytes.proofs.Lifted.{split_over_bytes_is_one_memory}
use Rattle.mdr_over_bytes.proofs.laws.split_over_bytes_is_one_memory.Goals as goal

pub returns : goal.returns
returns c = split_over_bytes_is_one_memory
