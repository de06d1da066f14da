-- The proof of `cells_of`.
use Rattle.std.proofs.Common.{length, ap, sym, ◌∙◌}
use Rattle.mdr_core.specs.Layout.{Alone, leaves, struct_cells}
use Rattle.mdr_core.proofs.Lying.{cells_of_type}
use Rattle.mdr_core.proofs.layout.cells_of.Goals as goal

pub returns : goal.returns
returns c =
    c.element_size.ensures ∙ ap (λ s. length (leaves (struct_cells s) Alone c.type_at.result.now)) c.as_slice.ensures ∙ ap length (sym (cells_of_type c.args.program.now c.args.ty c.type_at.result.now c.type_at.ensures))
