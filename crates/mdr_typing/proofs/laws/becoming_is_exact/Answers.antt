use Rattle.mdr_typing.proofs.Becomings.{becomes_exactly}
use Rattle.mdr_typing.proofs.laws.becoming_is_exact.Goals as goal

pub returns : goal.returns
returns c = becomes_exactly
