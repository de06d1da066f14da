use Rattle.std.proofs.Common.{◌∙◌, ap}
use Rattle.mdr_events.specs.Events.{asked_as}
use Rattle.mdr_watched.specs.Watched.{held, serves}
use Rattle.mdr_world.specs.Driven.{Driven}
use Rattle.mdr_watch.specs.Watching.{driver_in}
use Rattle.mdr_watch.proofs.Guards.{stays_open}
use Rattle.mdr_watch.proofs.asks.ask.Goals as goal

pub serve_beside-requires-clause-same : goal.serve_beside-requires-clause-same
serve_beside-requires-clause-same c = ap (λ (d : Driven). d.program) c.guarded.view_is ∙ c.requires.same

pub returns-in-Ok-clause-served : goal.returns-in-Ok-clause-served
returns-in-Ok-clause-served c =
    c.in-Ok.ensures.served ∙ ap (λ (d : Driven). serves (driver_in c.args.upcall.watch) (held (driver_in c.args.upcall.watch)) c.args.upcall.func (asked_as c.args.asked.now) d.world) c.guarded.view_is

pub returns-in-Ok-clause-stays : goal.returns-in-Ok-clause-stays
returns-in-Ok-clause-stays c =
    stays_open c.guarded.inside.sets c.serve_beside.new.sets c.guarded.inside.world c.serve_beside.new.world c.args.guarded.now c.guarded.view_is c.in-Ok.ensures.outer c.in-Ok.ensures.spent
