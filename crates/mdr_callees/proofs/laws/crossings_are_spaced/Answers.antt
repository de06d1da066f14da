use Rattle.mdr_callees.proofs.SpacedLaws.{crossings_are_spaced}
use Rattle.mdr_callees.proofs.laws.crossings_are_spaced.Goals as goal

pub returns : goal.returns
returns c = crossings_are_spaced
