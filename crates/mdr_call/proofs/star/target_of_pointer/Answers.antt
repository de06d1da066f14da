use Rattle.std.proofs.Common.{refl}
use Rattle.mdr_faults.specs.Faults.{Right}
use Rattle.mdr_call.proofs.star.target_of_pointer.Goals as goal

pub returns : goal.returns
returns c = c.prefix.ensures (Right c.args.x) refl
