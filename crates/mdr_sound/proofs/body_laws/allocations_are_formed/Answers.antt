use Rattle.mdr_sound.proofs.Making.{allocations_formed}
use Rattle.mdr_sound.proofs.body_laws.allocations_are_formed.Goals as goal

-- src/body_laws.rt:12:1
pub returns : goal.returns
returns c = allocations_formed
