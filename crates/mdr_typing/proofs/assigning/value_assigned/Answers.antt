use Rattle.std.proofs.Common.{refl}
use Rattle.mdr_faults.specs.Faults.{Right}
use Rattle.mdr_typing.specs.Sources.{value_assigned}
use Rattle.mdr_typing.proofs.assigning.value_assigned.Goals as goal

pub returns : goal.returns
unfolding value_assigned
returns c = c.assigning.ensures _ (c.assignment_rule.ensures (Right c.args.x) (Right c.args.y) refl refl)
