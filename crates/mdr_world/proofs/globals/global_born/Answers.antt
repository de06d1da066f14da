use Rattle.std.proofs.Common.{sym, subst}
use Rattle.mdr_world.specs.Stored.{AreThere}
use Rattle.mdr_world.proofs.globals.global_born.Goals as goal

pub all_placed-requires : goal.all_placed-requires
all_placed-requires c = subst (AreThere c.args.storage.now.blocks.memory) (sym c.as_slice.ensures) c.requires.there
