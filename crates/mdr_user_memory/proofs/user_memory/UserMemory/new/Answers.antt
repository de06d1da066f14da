use Rattle.mdr_user_memory.proofs.KeptLaws.{empty_kept}
use Rattle.mdr_user_memory.proofs.user_memory.UserMemory.new.Goals as goal

pub user_memory-requires : goal.user_memory-requires
user_memory-requires c = empty_kept _ _ _ c.new.ensures c.new-region.ensures.empty c.new-pairs.ensures.pairs
