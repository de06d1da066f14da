use Rattle.mdr_half_program.proofs.UsedLines.{bodies_free}
use Rattle.mdr_half_program.proofs.laws.bodies_use_what_is_declared.Goals as goal

pub returns : goal.returns
returns c = bodies_free
