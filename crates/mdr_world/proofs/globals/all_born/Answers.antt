use Rattle.std.proofs.Common.{length, refl}
use Rattle.std.proofs.lemmas.Option.{slice_get_read}
use Rattle.mdr_meaning.specs.Bodies.{known_of}
use Rattle.mdr_world.proofs.GlobalLaws.{all_there, live_so_far}
use Rattle.mdr_world.proofs.globals.all_born.Goals as goal

pub global_born-requires-clause-there : goal.global_born-requires-clause-there
global_born-requires-clause-there c =
    let at = c.loop-global in
    let names = slice_get_read c.args.globals.now (length c.args.globals.now) at.global-index c.global-item.result refl c.loop-global-test.true c.global-item.is in
    all_there c.args.program.now at.global-index c.global-item.result (c.requires.sound at.global-index c.global-item.result names) at.storage.blocks.memory
    (live_so_far (known_of c.args.program.now) c.args.globals.now at.storage.blocks.memory _ at.storage.lives at.global-index at.invariant.so_far at.invariant.numbers at.invariant.lives)
