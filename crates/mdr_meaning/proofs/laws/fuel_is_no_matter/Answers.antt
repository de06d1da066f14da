use Rattle.mdr_meaning.proofs.FuelLaws.{fuel_is_no_matter, started_fuel_is_no_matter}
use Rattle.mdr_meaning.proofs.laws.fuel_is_no_matter.Goals as goal

pub returns : goal.returns
returns c = record { code = fuel_is_no_matter; started = started_fuel_is_no_matter }
