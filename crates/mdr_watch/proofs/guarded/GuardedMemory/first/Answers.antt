use Rattle.std.specs.Prelude.{reverse}
use Rattle.std.proofs.Common.{◌∙◌, sym}
use Rattle.std.proofs.lemmas.Option.{IfSome_then}
use Rattle.mdr_watch.proofs.Guards.{first_goes}
use Rattle.mdr_watch.proofs.guarded.GuardedMemory.first.Goals as goal

pub returns : goal.returns
returns c =
    IfSome_then c.first.result c.first.ensures
    (λ n e. first_goes c.self.inside.world.program c.self.inside.sets.inner (reverse c.self.inside.sets.outer) c.self.inside.world.world c.args.serial n c.args.self.now c.self.view_is (sym c.has.ensures ∙ c.if-not-has.false) e)
