use Rattle.mdr_half_program.proofs.Same.{functions_keep}
use Rattle.mdr_half_program.proofs.laws.functions_keep_their_types.Goals as goal

pub returns : goal.returns
returns c = functions_keep
