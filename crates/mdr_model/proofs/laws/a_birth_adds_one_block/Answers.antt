use Rattle.mdr_model.proofs.MemoryInOrder.{birth_is_one_block}
use Rattle.mdr_model.proofs.laws.a_birth_adds_one_block.Goals as goal

pub returns : goal.returns
returns c = birth_is_one_block
