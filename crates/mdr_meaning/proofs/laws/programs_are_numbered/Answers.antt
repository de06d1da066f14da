use Rattle.mdr_meaning.proofs.NumberLaws.{programs_are_numbered}
use Rattle.mdr_meaning.proofs.laws.programs_are_numbered.Goals as goal

pub returns : goal.returns
returns c = programs_are_numbered
