use Rattle.std.proofs.lemmas.Option.{slice_get-get_or}
use Rattle.mdr_world.proofs.globals.all_placed.Goals as goal

pub placed-requires : goal.placed-requires
placed-requires c = c.requires c.loop-v.v-index _ (slice_get-get_or c.args.first.now c.loop-v.v-index _ c.loop-v-test.true)
