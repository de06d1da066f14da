use Rattle.std.proofs.Common.{arith, refl}
use Rattle.mdr_paths.proofs.Told.{told_set}
use Rattle.mdr_access.proofs.OwnedLaws.{owns_if}
use Rattle.mdr_access.proofs.owned.form_marks.Goals as goal

pub loop-at-preserved : goal.loop-at-preserved
loop-at-preserved c =
    told_set _ _ _ c.loop-at.marks.items _ _ (omega arith) refl (owns_if c.args.program.now _ c.args.keys.now c.loop-at.at c.listed-key.result _ c.listed-key.ensures c.has_one.ensures) c.loop-at.invariant
