use Rattle.mdr_exec.proofs.MakingLaws.{sides_are_halves}
use Rattle.mdr_exec.proofs.laws.sides_are_halves.Goals as goal

pub returns : goal.returns
returns c = sides_are_halves
