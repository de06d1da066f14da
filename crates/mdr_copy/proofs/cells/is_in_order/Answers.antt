use Rattle.std.proofs.Common.{sym, arith}
use Rattle.mdr_model.specs.Sets.{is_same_cell}
use Rattle.mdr_copy.proofs.CellSearches.{below, searchable, in_nowhere}
use Rattle.mdr_copy.proofs.Searches.{smaller}
use Rattle.mdr_copy.proofs.cells.is_in_order.Goals as goal

pub returns-else-place-cells : goal.returns-else-place-cells
returns-else-place-cells c =
    let over = c.if-place-cells.false in
    sym
    (in_nowhere (record { serial = c.args.serial; index = c.args.index }) c.args.cells.now
    (smaller (below (record { serial = c.args.serial; index = c.args.index })) (is_same_cell (record { serial = c.args.serial; index = c.args.index })) c.args.cells.now c.place_for-place.result (searchable (record { serial = c.args.serial; index = c.args.index }) c.args.cells.now c.requires) c.place_for-place.ensures.place (omega (arith, over))))
