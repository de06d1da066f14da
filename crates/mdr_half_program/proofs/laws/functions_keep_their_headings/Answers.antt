use Rattle.mdr_half_program.proofs.Kept.{functions_keep}
use Rattle.mdr_half_program.proofs.laws.functions_keep_their_headings.Goals as goal

pub returns : goal.returns
returns c = functions_keep
