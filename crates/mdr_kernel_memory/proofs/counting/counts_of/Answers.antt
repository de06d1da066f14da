use Rattle.std.proofs.Common.{◌∙◌, ap}
use Rattle.mdr_plain.specs.World.{Clock, Kept}
use Rattle.mdr_kernel_memory.proofs.counting.counts_of.Goals as goal

pub returns-clause-ticks : goal.returns-clause-ticks
returns-clause-ticks c = c.ticks.ensures ∙ ap (λ (t : Clock). t.ticks) c.world-world.ensures.clock

pub returns-clause-rest : goal.returns-clause-rest
returns-clause-rest c = c.rest.ensures ∙ ap (λ (t : Clock). t.rest) c.world-world.ensures.clock

pub returns-clause-calls : goal.returns-clause-calls
returns-clause-calls c = c.calls.ensures ∙ ap (λ (k : Kept). k.calls) c.world-world.ensures.kept
