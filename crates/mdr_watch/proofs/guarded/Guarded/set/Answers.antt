use Rattle.std.proofs.Common.{◌∙◌, ap, sym}
use Rattle.mdr_watched.specs.Views.{living, top}
use Rattle.mdr_world.specs.Driven.{Driven}
use Rattle.mdr_watch.proofs.guarded.Guarded.set.Goals as goal

pub returns : goal.returns
returns c = sym (ap (λ (d : Driven). living d.world.memory c.self.inside.sets.inner) c.self.view_is) ∙ ap (λ (d : Driven). top d.world.views) c.self.view_is
