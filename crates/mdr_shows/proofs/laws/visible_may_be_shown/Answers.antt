use Rattle.mdr_shows.proofs.Visible.{visible_may_be_shown}
use Rattle.mdr_shows.proofs.laws.visible_may_be_shown.Goals as goal

pub returns : goal.returns
returns c = visible_may_be_shown
