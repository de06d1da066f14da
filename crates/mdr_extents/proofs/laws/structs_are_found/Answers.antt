use Rattle.mdr_extents.proofs.StructLaws.{structs_are_around}
use Rattle.mdr_extents.proofs.WorkedProofs.{finds_structs}
use Rattle.mdr_extents.proofs.laws.structs_are_found.Goals as goal

pub returns : goal.returns
returns c = record { law = structs_are_around; worked = finds_structs }
