use Rattle.mdr_binary.specs.Binaries.{moved}
use Rattle.mdr_binary.proofs.pointer.moved.Goals as goal

pub returns : goal.returns
unfolding moved
returns c = c.pointer_to.ensures _ c.moved_value.ensures
