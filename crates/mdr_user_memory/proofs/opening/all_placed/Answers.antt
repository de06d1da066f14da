use Rattle.std.proofs.lemmas.Option.{slice_get-get_or}
use Rattle.mdr_user_memory.proofs.opening.all_placed.Goals as goal

pub placed-requires-clause-paired : goal.placed-requires-clause-paired
placed-requires-clause-paired c = c.requires.paired c.loop-wire.wire-index _ (slice_get-get_or c.args.wires.now c.loop-wire.wire-index _ c.loop-wire-test.true)
