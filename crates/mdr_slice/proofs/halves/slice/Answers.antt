use Rattle.std.proofs.Common.{map, subst, ap, ◌∙◌, length}
use Rattle.mdr_paths.specs.Marking.{AreMarks, Tells}
use Rattle.mdr_slice.specs.Marks.{IsDown, half_by}
use Rattle.mdr_slice.proofs.HalvesLaws.{halves_are}
use Rattle.mdr_slice.proofs.halves.slice.Goals as goal

pub returns : goal.returns
returns c =
    halves_are c.args.program.now c.args.roots.now c.in_ok-kernel.kernel.items c.in_ok-root.root.items c.in_ok-down.down.items c.in_ok-halves.halves.items c.requires.roots (c.in_ok-halves.ensures ∙ ap (map half_by) c.as_slice-2.ensures.value) c.in_ok-kernel.ensures
    (subst (λ n. AreMarks n c.args.roots.now c.in_ok-root.root.items) c.len.ensures c.in_ok-root.ensures)
    (subst (λ xs. Tells (length c.args.program.now.funcs) (IsDown c.args.program.now xs) c.in_ok-down.down.items) c.as_slice.ensures.value c.in_ok-down.ensures) _ c.from_vec.ensures c.from_vec-2.ensures c.from_vec-3.ensures
