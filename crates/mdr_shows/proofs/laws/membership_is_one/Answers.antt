use Rattle.mdr_shows.proofs.Membership.{membership_is_one}
use Rattle.mdr_shows.proofs.laws.membership_is_one.Goals as goal

pub returns : goal.returns
returns c = membership_is_one
