use Rattle.std.specs.Prelude.{reverse}
use Rattle.std.proofs.Common.{ap}
use Rattle.mdr_watch.proofs.Guards.{forgotten}
use Rattle.mdr_watch.proofs.guarded.forget.Goals as goal

pub returns : goal.returns
returns c = forgotten c.new-inner.result (reverse c.new-outer.result) c.args.world.now c.enter_user.new.self c.new-inner.ensures (ap reverse c.new-outer.ensures) c.enter_user.ensures
