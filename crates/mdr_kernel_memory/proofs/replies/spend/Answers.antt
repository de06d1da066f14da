use Rattle.std.proofs.Common.{◌≤◌, ap, subst, sym}
use Rattle.mdr_world.specs.Driven.{Driven}
use Rattle.mdr_kernel_memory.proofs.replies.spend.Goals as goal

pub count-requires : goal.count-requires
count-requires c = subst (λ n. c.args.ticks ≤ n) (sym (ap (λ (d : Driven). d.world.clock.rest) c.parts-world.ensures.is)) c.requires
