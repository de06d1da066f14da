use Rattle.mdr_watched.proofs.TouchedLaws.{keys_are_touched}
use Rattle.mdr_watched.proofs.laws.keys_are_touched.Goals as goal

pub returns : goal.returns
returns c = keys_are_touched
