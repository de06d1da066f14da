use Rattle.mdr_half_program.proofs.UsedFiles.{used_defined}
use Rattle.mdr_half_program.proofs.laws.bodies_use_what_is_defined.Goals as goal

pub returns : goal.returns
returns c = used_defined
