use Rattle.mdr_world.proofs.WalkLaws as walks
use Rattle.mdr_world.proofs.laws.drivers_walk.Goals as goal

pub returns : goal.returns
returns c = walks.drivers_walk
