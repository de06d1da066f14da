use Rattle.mdr_slice.proofs.LawProofs.{roots_are_functions}
use Rattle.mdr_slice.proofs.laws.roots_are_functions.Goals as goal

pub returns : goal.returns
returns c = roots_are_functions
