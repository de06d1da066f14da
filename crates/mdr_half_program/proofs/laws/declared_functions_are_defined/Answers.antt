use Rattle.mdr_half_program.proofs.UsedFiles.{declared_defined}
use Rattle.mdr_half_program.proofs.laws.declared_functions_are_defined.Goals as goal

pub returns : goal.returns
returns c = declared_defined
