use Rattle.std.proofs.Common.{◌∙◌, ap}
use Rattle.mdr_model.specs.Memory.{Memory}
use Rattle.mdr_watched.specs.Views.{living}
use Rattle.mdr_kernel_memory.proofs.moments.moment_of.Goals as goal

pub returns-clause-view : goal.returns-clause-view
returns-clause-view c = c.in_ok-view.ensures ∙ ap (λ (m : Memory). living m c.set-set.result.now) c.world-world.ensures.memory ∙ c.set-set.ensures
