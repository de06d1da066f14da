use Rattle.std.proofs.Common.{suc, ◌∙◌, ap}
use Rattle.mdr_watch.proofs.Guards.{one_and}
use Rattle.mdr_watch.proofs.guarded.Guarded.below.Goals as goal

pub returns : goal.returns
returns c = ap suc c.len.ensures ∙ one_and c.self.inside.world.program c.self.inside.sets.inner c.self.inside.sets.outer c.self.inside.world.world c.args.self.now c.self.view_is
