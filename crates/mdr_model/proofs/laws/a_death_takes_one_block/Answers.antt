use Rattle.mdr_model.proofs.MemoryInOrder.{death_is_one_block}
use Rattle.mdr_model.proofs.laws.a_death_takes_one_block.Goals as goal

pub returns : goal.returns
returns c = death_is_one_block
