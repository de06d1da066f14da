-- The two tests of whether a cell is in a set are one.
use Rattle.std.proofs.Common.{refl}
use Rattle.mdr_model.specs.Sets.{is_in}
use Rattle.mdr_paths.specs.Paths.{is_in as is_among}
use Rattle.mdr_shows.specs.Laws.{MembershipIsOne}

pub membership_is_one : MembershipIsOne
unfolding is_in is_among
membership_is_one set c = refl
