use Rattle.std.proofs.Common.{map, subst, length}
use Rattle.std.specs.Prelude.{vec_items}
use Rattle.mdr_paths.specs.Marking.{Tells}
use Rattle.mdr_slice.specs.Marks.{CalledByUser, HasBoth}
use Rattle.mdr_slice.proofs.HalvesLaws.{down_of}
use Rattle.mdr_slice.proofs.halves.down_marks.Goals as goal

pub returns : goal.returns
returns c =
    down_of c.args.program.now vec_items c.in_ok-edges.edges.items c.args.kernel.now c.in_ok-called.called.items _ c.requires.marks c.in_ok-edges.ensures
    (subst (λ xs. Tells (length c.args.program.now.funcs) (CalledByUser c.args.kernel.now (map vec_items xs) (length xs)) c.in_ok-called.called.items) c.as_slice.ensures.value
    (subst (λ n. Tells n (CalledByUser c.args.kernel.now (map vec_items c.as_slice.result.now) (length c.as_slice.result.now)) c.in_ok-called.called.items) c.len.ensures c.in_ok-called.ensures))
    (subst (λ xs. Tells (length c.args.kernel.now) (HasBoth c.args.kernel.now xs) c.in_ok-marks.marks.items) c.as_slice-2.ensures.value c.in_ok-marks.ensures)
