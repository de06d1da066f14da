use Rattle.mdr_honest.proofs.FittingScripts.{scripts_fit}
use Rattle.mdr_honest.proofs.laws.scripts_fit.Goals as goal

pub returns : goal.returns
returns c = scripts_fit
