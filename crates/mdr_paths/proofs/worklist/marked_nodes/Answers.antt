use Rattle.std.proofs.Common.{rules, arith}
use Rattle.mdr_paths.proofs.MarkLaws.{push_left, skip_left}
use Rattle.mdr_paths.proofs.worklist.marked_nodes.Goals as goal
use Rattle.mdr_paths.proofs.worklist.marked_nodes.Goals.{then-marks-at+in_ok-push, else-marks-at}

pub loop-at-preserved : goal.loop-at-preserved
loop-at-preserved c =
    elim c.if-marks-at.branch [
      | then-marks-at+in_ok-push w ↦ push_left c.args.marks.now c.loop-at.at c.loop-at.nodes.items _ _ (omega arith) w.if-marks-at.true (search rules) c.loop-at.invariant
      | else-marks-at w ↦ skip_left c.args.marks.now c.loop-at.at c.loop-at.nodes.items _ _ (omega arith) w.if-marks-at.false (search rules) c.loop-at.invariant
    ]
