use Rattle.std.proofs.Common.{map, subst}
use Rattle.std.specs.Prelude.{vec_items}
use Rattle.mdr_paths.specs.Numbers.{AreReached}
use Rattle.mdr_paths.proofs.Told.{chains_told}
use Rattle.mdr_slice.proofs.HalvesLaws.{steps_of}
use Rattle.mdr_slice.proofs.halves.kernel_marks.Goals as goal

pub returns : goal.returns
returns c =
    chains_told _ _ _ _ _ (steps_of c.args.program.now c.args.roots.now _ c.requires.roots c.in_ok-edges.ensures) _
    (subst (λ xs. AreReached (map vec_items xs) c.args.roots.now c.in_ok-marks.marks.items) c.as_slice.ensures.value c.in_ok-marks.ensures)
