use Rattle.std.proofs.Common.{refl, ◌∙◌, ap}
use Rattle.mdr_world.specs.Driven.{Driven}
use Rattle.mdr_watch.specs.Watching.{enters_below}
use Rattle.mdr_watch.proofs.Guards.{stays_open}
use Rattle.mdr_watch.proofs.downcalls.enter_below.Goals as goal

pub enter_beside-requires-clause-same : goal.enter_beside-requires-clause-same
enter_beside-requires-clause-same c = ap (λ (d : Driven). d.program) c.guarded.view_is ∙ c.requires.same

pub returns-in-Ok-clause-stays : goal.returns-in-Ok-clause-stays
returns-in-Ok-clause-stays c = stays_open c.guarded.inside.sets c.guarded.inside.sets c.guarded.inside.world c.enter_beside.new.world c.args.guarded.now c.guarded.view_is refl c.in-Ok.ensures.spent

pub returns-in-Ok-clause-went : goal.returns-in-Ok-clause-went
returns-in-Ok-clause-went c = c.in-Ok.ensures.went ∙ ap (λ (d : Driven). enters_below c.args.watch c.args.crossing.now d.world) c.guarded.view_is
