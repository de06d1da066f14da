use Rattle.mdr_core.proofs.WorkedProofs.{a_pointer_names_a_part}
use Rattle.mdr_core.proofs.worked.a_pointer_names_a_part.Goals as goal

pub returns : goal.returns
returns c = a_pointer_names_a_part
