use Rattle.std.proofs.Common.{sym, subst}
use Rattle.mdr_world.specs.Stored.{AreSoundGlobals}
use Rattle.mdr_world.proofs.globals.first_storage.Goals as goal

pub all_born-requires-clause-few : goal.all_born-requires-clause-few
all_born-requires-clause-few c = c.requires.numbers.types

pub all_born-requires-clause-sound : goal.all_born-requires-clause-sound
all_born-requires-clause-sound c = subst (AreSoundGlobals c.args.program.now) (sym c.as_slice.ensures) c.requires.globals
