use Rattle.mdr_typing.specs.Sources.{call_assigned}
use Rattle.mdr_typing.proofs.assigning.call_assigned.Goals as goal

pub returns : goal.returns
unfolding call_assigned
returns c = c.call_given.ensures _ c.destination_at-d.ensures
