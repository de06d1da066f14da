use Rattle.std.proofs.Common.{refl, ◌∙◌, ap, subst}
use Rattle.mdr_meaning.specs.Values.{wire_of}
use Rattle.mdr_viewed.specs.Viewed.{viewed}
use Rattle.mdr_world.specs.Driven.{Driven}
use Rattle.mdr_watch.specs.Guarding.{sets_of}
use Rattle.mdr_watch.specs.Watching.{WentBelow}
use Rattle.mdr_watch.proofs.Guards.{stays_open}
use Rattle.mdr_watch.proofs.downcalls.go_on_below.Goals as goal

pub go_on_beside-requires-clause-same : goal.go_on_beside-requires-clause-same
go_on_beside-requires-clause-same c = ap (λ (d : Driven). d.program) c.guarded.view_is ∙ c.requires.same

pub returns-in-Ok-clause-stays : goal.returns-in-Ok-clause-stays
returns-in-Ok-clause-stays c = stays_open c.guarded.inside.sets c.guarded.inside.sets c.guarded.inside.world c.go_on_beside.new.world c.args.guarded.now c.guarded.view_is refl c.in-Ok.ensures.spent

pub returns-in-Ok-clause-went : goal.returns-in-Ok-clause-went
returns-in-Ok-clause-went c =
    subst (λ (d : Driven). WentBelow c.args.watch c.args.paused (wire_of c.args.value) d.world c.in-Ok.went (viewed (sets_of c.guarded.inside.sets) c.go_on_beside.new.world.world)) c.guarded.view_is c.in-Ok.ensures.went
