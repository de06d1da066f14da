use Rattle.std.proofs.Common.{ap, ◌∙◌}
use Rattle.mdr_paths.specs.Numbers.{marks_of}
use Rattle.mdr_paths.proofs.Told.{told_nodes}
use Rattle.mdr_slice.proofs.graph.callees.Goals as goal

pub returns : goal.returns
returns c = told_nodes _ _ _ _ (c.in_ok-nodes.ensures ∙ ap marks_of c.as_slice.ensures.value) c.in_ok-marks.ensures
