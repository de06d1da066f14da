use Rattle.mdr_rich_sources.proofs.WorkedProofs.{parts_are_taken, places_are_taken}
use Rattle.mdr_rich_sources.proofs.worked.parts_are_taken.Goals as goal

pub returns : goal.returns
returns c = record { parts = parts_are_taken; places = places_are_taken }
