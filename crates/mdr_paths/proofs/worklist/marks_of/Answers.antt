use Rattle.mdr_paths.proofs.MarkLaws.{marks_are}
use Rattle.mdr_paths.proofs.worklist.marks_of.Goals as goal

pub returns : goal.returns
returns c = marks_are c.args.count c.args.nodes.now c.in_ok-marks.marks.items _ (c.in_ok-marks.ensures.items_if_clones_equal (λ y e. e)) c.mark_each.ensures
