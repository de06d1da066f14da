use Rattle.std.specs.Prelude.{reverse}
use Rattle.std.proofs.Common.{◌∙◌, sym}
use Rattle.mdr_watch.proofs.Guards.{put_goes, put_guarded}
use Rattle.mdr_watch.proofs.guarded.GuardedMemory.set_first.Goals as goal

pub invariant_of-self : goal.invariant_of-self
invariant_of-self c =
    put_guarded c.self.inside.world.program c.self.inside.sets.inner (reverse c.self.inside.sets.outer) c.self.inside.world.world c.args.serial c.args.integer c.set_first.result c.set_first.new.self c.self.invariant c.set_first.ensures.done c.set_first.ensures.kept

pub returns-clause-done : goal.returns-clause-done
returns-clause-done c = λ done.
    put_goes c.self.inside.world.program c.self.inside.sets.inner (reverse c.self.inside.sets.outer) c.self.inside.world.world c.args.serial c.args.integer c.args.self.now c.self.view_is (sym c.has.ensures ∙ c.if-not-has.false) c.set_first.new.self (c.set_first.ensures.done done)
