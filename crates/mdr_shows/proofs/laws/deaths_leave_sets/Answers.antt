use Rattle.mdr_shows.proofs.Views.{deaths_leave_sets}
use Rattle.mdr_shows.proofs.laws.deaths_leave_sets.Goals as goal

pub returns : goal.returns
returns c = deaths_leave_sets
