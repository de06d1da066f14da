use Rattle.mdr_track.proofs.WorkedLaws.{told}
use Rattle.mdr_track.proofs.laws.a_cycle_with_an_alias_is_told.Goals as goal

pub returns : goal.returns
returns c = told
