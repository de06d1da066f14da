use Rattle.std.proofs.Common.{arith, refl}
use Rattle.mdr_paths.proofs.Told.{told_set, told_all}
use Rattle.mdr_slice.proofs.roots.root_marks.Goals as goal

pub loop-func-preserved : goal.loop-func-preserved
loop-func-preserved c = told_set _ _ _ c.loop-func.marks.items _ _ (omega arith) refl c.is_root.ensures c.loop-func.invariant

pub returns : goal.returns
returns c = told_all _ c.loop-func.func _ _ (omega arith) c.loop-func.invariant
