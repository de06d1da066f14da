use Rattle.mdr_assign.specs.Assignments.{assigned_at}
use Rattle.mdr_assign.proofs.assignment.assigned_at.Goals as goal

pub returns : goal.returns
unfolding assigned_at
returns c = c.assigned_to.ensures _ c.left_at-d.ensures
