use Rattle.std.specs.Prelude.{reverse}
use Rattle.std.proofs.Common.{subst, sym}
use Rattle.mdr_events.specs.Values.{wires_of}
use Rattle.mdr_world.specs.Driven.{Driven}
use Rattle.mdr_watch.specs.Guarding.{IsGuarded, sets_of}
use Rattle.mdr_watch.proofs.Guards.{death_goes, death_guarded}
use Rattle.mdr_watch.proofs.guarded.GuardedMemory.death.Goals as goal

pub invariant_of-self : goal.invariant_of-self
invariant_of-self c =
    subst (λ (d : Driven). IsGuarded (sets_of c.self.inside.sets) d.world) (sym c.death.ensures) (death_guarded c.self.inside.sets.inner (reverse c.self.inside.sets.outer) c.self.inside.world.world (wires_of c.args.pointers.now) c.self.invariant)

pub returns : goal.returns
returns c =
    death_goes c.self.inside.world.program c.self.inside.sets.inner (reverse c.self.inside.sets.outer) c.self.inside.world.world c.args.self.now c.self.view_is (wires_of c.args.pointers.now) c.death.new.self c.death.ensures
