use Rattle.mdr_honest.proofs.Bindings.{bound_commands_fit}
use Rattle.mdr_honest.proofs.laws.bound_commands_fit.Goals as goal

pub returns : goal.returns
returns c = bound_commands_fit
