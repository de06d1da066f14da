use Rattle.mdr_program.specs.Parts.{marked}
use Rattle.mdr_program.proofs.Numbering.{one_param}
use Rattle.mdr_program.proofs.parts.marked.Goals as goal

pub loop-p-init : goal.loop-p-init
unfolding marked
loop-p-init c = c.new-all.ensures

pub loop-p-preserved : goal.loop-p-preserved
loop-p-preserved c = one_param _ _ _ _ _ _ _ _ c.loop-p.invariant c.len.ensures c.flag-is_object.ensures c.flagged.ensures c.in_ok-push.ensures.ok
