use Rattle.std.proofs.Common.{ap, arith}
use Rattle.mdr_world.specs.Driven.{Driven}
use Rattle.mdr_world.proofs.world.World.count.Goals as goal

pub overflow_sub-self : goal.overflow_sub-self
overflow_sub-self c = omega (arith, c.requires, ap (λ (d : Driven). d.world.clock.rest) c.self.view_is)

pub overflow_add-self : goal.overflow_add-self
overflow_add-self c = omega (arith, c.requires, c.self.invariant.few, ap (λ (d : Driven). d.world.clock.rest) c.self.view_is)
