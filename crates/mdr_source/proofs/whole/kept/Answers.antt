use Rattle.std.proofs.Common.{refl}
use Rattle.mdr_source.specs.Sources.{Judged}
use Rattle.mdr_source.proofs.whole.kept.Goals as goal

pub returns-in-Ok : goal.returns-in-Ok
returns-in-Ok c = Judged.right c.args.program refl c.in-Ok.ensures.ok
