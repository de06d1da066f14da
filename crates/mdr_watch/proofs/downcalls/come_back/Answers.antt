use Rattle.std.specs.Prelude.{reverse}
use Rattle.std.proofs.Common.{ap, le_refl}
use Rattle.mdr_events.specs.Values.{wires_of}
use Rattle.mdr_meaning.specs.Values.{wire_of}
use Rattle.mdr_watch.proofs.Calls.{back_goes}
use Rattle.mdr_watch.proofs.Guards.{stays_open}
use Rattle.mdr_watch.proofs.downcalls.come_back.Goals as goal

pub returns-in-Ok-clause-stays : goal.returns-in-Ok-clause-stays
returns-in-Ok-clause-stays c =
    stays_open c.guarded.inside.sets c.take_anew.new.sets c.guarded.inside.world c.guarded.inside.world c.args.guarded.now c.guarded.view_is c.in-Ok.ensures.outer (le_refl c.guarded.inside.world.world.clock.rest)

pub returns-in-Ok-clause-gave : goal.returns-in-Ok-clause-gave
returns-in-Ok-clause-gave c =
    back_goes c.args.upcall c.guarded.inside.sets.inner (reverse c.guarded.inside.sets.outer) c.guarded.inside.world c.args.guarded.now c.args.crossing.now (wires_of c.as_slice-args.result.now) (wire_of c.args.value) _ c.guarded.view_is c.guarded.invariant
    (record { rises = c.births-in_order.ensures.rises; below = c.births-in_order.ensures.below }) (ap wires_of c.as_slice-args.ensures) c.in-Ok.ensures.gave
