use Rattle.std.proofs.Common.{sym, ◌∙◌}
use Rattle.mdr_copy.proofs.Passing.{typed_block, no_cell, untyped_block, other_way}
use Rattle.mdr_copy.proofs.cell_types.cell_type.Goals as goal

pub returns-in-Some : goal.returns-in-Some
returns-in-Some c =
    other_way c.past_elements.result.found _ _ _ _ (λ h. no_cell c.args.program.now c.args.block c.args.index c.past_elements.result.left c.in-Some.ty.now c.in-Some.ensures h)
    (λ r h. sym (typed_block c.args.program.now c.args.block c.args.index c.in-Some.ty.now c.in-Some.ensures) ∙ h) (rw c.as_slice.ensures at c.past_elements.ensures)

pub returns-in-None : goal.returns-in-None
returns-in-None c = untyped_block c.args.program.now c.args.block c.args.index c.in-None.ensures
