use Rattle.std.proofs.Common.{sym, ◌∙◌}
use Rattle.mdr_copy.proofs.CellSearches.{in_at, not_at}
use Rattle.mdr_copy.proofs.cells.stands_at.Goals as goal

pub returns-then-is_same_cell : goal.returns-then-is_same_cell
returns-then-is_same_cell c = in_at (record { serial = c.args.serial; index = c.args.index }) c.args.cells.now c.args.place _ c.requires.rise c.requires.place c.requires.inside (sym c.is_same_cell.ensures ∙ c.if-is_same_cell.true)

pub returns-else-is_same_cell : goal.returns-else-is_same_cell
returns-else-is_same_cell c = not_at (record { serial = c.args.serial; index = c.args.index }) c.args.cells.now c.args.place _ c.requires.rise c.requires.place c.requires.inside (sym c.is_same_cell.ensures ∙ c.if-is_same_cell.false)
