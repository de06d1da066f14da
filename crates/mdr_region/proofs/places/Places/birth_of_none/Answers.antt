use Rattle.mdr_region.proofs.KeptLaws.{kept_birth_none, block_none}
use Rattle.mdr_region.proofs.places.Places.birth_of_none.Goals as goal

pub returns-clause-sound : goal.returns-clause-sound
returns-clause-sound c = rw c.and.ensures (kept_birth_none _ _ _ _ _ _ _ c.requires)

pub returns-clause-block : goal.returns-clause-block
returns-clause-block c = rw c.and.ensures (block_none _ _ _ _ _ _ _ c.requires)
