use Rattle.std.proofs.Common.{◌≡◌, ◌++◌, drop, map}
use Rattle.std.specs.Prelude.{vec_items}
use Rattle.mdr_cut.proofs.report.rows_of.Given as goal

abbrev pub invariant-loop-edge : goal.invariant-loop-edge
invariant-loop-edge l = l.rows.items ++ map vec_items (drop l.edge-index l.edges) ≡ map vec_items l.edges
