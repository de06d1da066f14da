-- The proof of `view_ok`.
use Rattle.mdr_core.proofs.Laid.{laid_out, type_has_cells, view_right}
use Rattle.mdr_core.proofs.view.view_ok.Goals as goal

pub is_in-requires-clause-laid : goal.is_in-requires-clause-laid
is_in-requires-clause-laid c = laid_out c.args.program.now c.requires.sound

pub is_in-requires-clause-cells : goal.is_in-requires-clause-cells
is_in-requires-clause-cells c = type_has_cells c.args.program.now c.requires.sound c.args.shape.ty _ c.type_at.ensures

pub returns-then-has_index : goal.returns-then-has_index
returns-then-has_index c = view_right _ _ _ _ _ c.type_at.ensures (c.has_index.ensures.0 c.if-has_index.true) c.is_in.ensures
