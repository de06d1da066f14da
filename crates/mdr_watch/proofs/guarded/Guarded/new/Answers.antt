use Rattle.std.specs.Prelude.{reverse}
use Rattle.std.proofs.Common.{◌∷◌, ◌∙◌, ap}
use Rattle.mdr_viewed.specs.Viewed.{viewed}
use Rattle.mdr_world.specs.Driven.{driver}
use Rattle.mdr_watch.proofs.Guards.{open_goes, open_guarded}
use Rattle.mdr_watch.proofs.guarded.Guarded.new.Goals as goal

pub returns : goal.returns
returns c =
    ap (λ outer. driver c.enter_user.new.self.program (viewed (c.args.set ∷ reverse outer) c.enter_user.new.self.world)) c.new.ensures
    ∙ open_goes c.args.world.program c.args.set c.args.world.world c.requires.alone c.requires.live c.enter_user.new.self c.enter_user.ensures

pub invariant_of-result : goal.invariant_of-result
invariant_of-result c = open_guarded c.args.world.program c.args.set c.new.result c.args.world.world c.enter_user.new.self c.new.ensures c.requires.older c.enter_user.ensures
