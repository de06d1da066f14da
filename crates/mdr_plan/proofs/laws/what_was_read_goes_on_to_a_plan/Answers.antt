use Rattle.mdr_plan.proofs.Closing.{closes}
use Rattle.mdr_plan.proofs.laws.what_was_read_goes_on_to_a_plan.Goals as goal

pub returns : goal.returns
returns c = closes
