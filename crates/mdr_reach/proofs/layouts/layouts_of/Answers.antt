use Rattle.std.proofs.Common.{◌∙◌, ◌++◌, [], ◌∷◌, ap, length}
use Rattle.mdr_reach.specs.declared.rows.Around.TheVariants as around
use Rattle.mdr_reach.proofs.RowLaws.{layouts_are}
use Rattle.mdr_reach.proofs.layouts.layouts_of.Goals as goal

pub returns : goal.returns
returns c =
    layouts_are c.args.program.now c.args.touched.now (record { keys = c.in_ok-keys.keys; rows = c.in_ok-rows.rows; lone = c.push_scalar.new.row; none = c.no_cells-none.result }) c.as_slice.result.now c.as_slice.ensures c.in_ok-rows.ensures
    (c.in_ok-push_scalar.ensures.arounds ∙ ap (λ xs. xs ++ around.Nothing ∷ []) c.no_cells-lone.ensures.arounds)
    (c.in_ok-push_scalar.ensures.offsets ∙ ap (λ xs. xs ++ length xs ∷ []) c.no_cells-lone.ensures.offsets)
    c.no_cells-none.ensures.arounds c.no_cells-none.ensures.offsets c.in_ok-keys.ensures
