use Rattle.std.proofs.Common.{arith, below_more}
use Rattle.std.proofs.lemmas.Bool.{both_ways}
use Rattle.mdr_access.proofs.OwnedLaws.{cell_found, cell_differs, no_cell}
use Rattle.mdr_access.proofs.owned.has_cell.Goals as goal

pub returns-then-is_same : goal.returns-then-is_same
returns-then-is_same c = cell_found c.args.program.now c.args.number c.loop-cell.cell _ c.args.key c.key_of.ensures (c.is_same.ensures.0 c.if-is_same.true)

pub loop-cell-preserved : goal.loop-cell-preserved
loop-cell-preserved c = below_more _ _ c.loop-cell.invariant (cell_differs c.args.program.now c.args.number c.loop-cell.cell _ c.args.key c.key_of.ensures (λ e. both_ways _ c.if-is_same.false (c.is_same.ensures.1 e)))

pub returns : goal.returns
returns c = no_cell c.args.program.now c.args.number c.loop-cell.cell c.args.key (omega (arith, c.cells_of-cell-end.ensures)) c.loop-cell.invariant
