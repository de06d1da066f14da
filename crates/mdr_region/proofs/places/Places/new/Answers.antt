use Rattle.mdr_region.proofs.KeptLaws.{kept_new}
use Rattle.mdr_region.proofs.places.Places.new.Goals as goal

pub returns-clause-sound : goal.returns-clause-sound
returns-clause-sound c = rw (c.new-2.ensures, c.new.ensures.items) (kept_new _)
