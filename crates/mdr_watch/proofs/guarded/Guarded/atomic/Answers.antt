use Rattle.std.proofs.Common.{◌∙◌, ap}
use Rattle.mdr_plain.specs.Atomic.{is_atomic}
use Rattle.mdr_world.specs.Driven.{Driven}
use Rattle.mdr_watch.proofs.guarded.Guarded.atomic.Goals as goal

pub returns : goal.returns
unfolding is_atomic
returns c = c.atomic.ensures ∙ ap (λ (d : Driven). is_atomic d.world) c.self.view_is
