use Rattle.mdr_world.proofs.world.World.new.Goals as goal

pub first_storage-requires : goal.first_storage-requires
first_storage-requires c = c.requires
