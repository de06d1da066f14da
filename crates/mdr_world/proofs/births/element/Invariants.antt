use Rattle.std.proofs.Common.{◌≡◌, ◌-◌, ◌++◌, drop, map}
use Rattle.mdr_core.specs.Layout.{cells_at}
use Rattle.mdr_world.proofs.ZeroLaws.{zero_in}
use Rattle.mdr_world.proofs.births.element.Given as goal

abbrev pub invariant-loop-cell : goal.invariant-loop-cell
invariant-loop-cell l = l.zeros ++ map zero_in (drop l.cell (cells_at l.program l.ty)) ≡ map zero_in (cells_at l.program l.ty)

abbrev pub decreases-loop-cell : goal.decreases-loop-cell
decreases-loop-cell l = l.cells - l.cell
