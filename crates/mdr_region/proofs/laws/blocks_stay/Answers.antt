use Rattle.mdr_region.proofs.BlockLaws.{block_born, block_stays, block_left}
use Rattle.mdr_region.proofs.laws.blocks_stay.Goals as goal

pub returns : goal.returns
returns c = record { born = block_born; birth = block_stays; death = block_left }
