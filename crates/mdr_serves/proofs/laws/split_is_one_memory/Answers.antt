use Rattle.mdr_serves.proofs.LawProof.{split_is_one_memory}
use Rattle.mdr_serves.proofs.laws.split_is_one_memory.Goals as goal

pub returns : goal.returns
returns c = split_is_one_memory
