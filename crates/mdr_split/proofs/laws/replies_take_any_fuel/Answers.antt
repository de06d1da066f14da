use Rattle.mdr_split.proofs.FuelLaws.{reply_with_fuel}
use Rattle.mdr_split.proofs.laws.replies_take_any_fuel.Goals as goal

pub returns : goal.returns
returns c = reply_with_fuel
